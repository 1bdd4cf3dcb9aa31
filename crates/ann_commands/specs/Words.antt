-- The words of a command line.
use Rattle.std.specs.Prelude.{◌≡◌, ℕ, ◌+◌, ◌%◌, ◌&&◌, ◌==◌, false, nat_le, take, drop, position, Bool, List, [], ◌∷◌, Option, None, Some, codes, if◌then◌else◌}
use Rattle.std.specs.Str.{bytes_eq}
use Rattle.ann_types.specs.declared.params.Params.{Params}
use Rattle.ann_script.specs.Words.{number_of}

-- what the command `once` is given: components, neighbours, building width, alpha as a/b
pub record Setting : Type 0 where
  pub d : ℕ
  pub r : ℕ
  pub l_build : ℕ
  pub a : ℕ
  pub b : ℕ

-- each number is within its limits
abbrev pub is_within : Setting → Bool
is_within s = nat_le 1 s.d && nat_le s.d 1024 && nat_le 2 s.r && nat_le s.r 128 && nat_le 1 s.l_build && nat_le s.l_build 1000 && nat_le 1 s.b && nat_le s.b s.a && nat_le s.a 100

abbrev pub checked : Setting → Option Setting
checked s = if is_within s then Some s else None

infixl 10 ◌>>=◌
-- a step, and then one that takes what it gave
abbrev pub ◌>>=◌ : {A B : Type 0} → Option A → (A → Option B) → Option B
None >>= f = None
(Some x) >>= f = f x

-- two numbers of at most 100
abbrev pub pair_of : List ℕ → List ℕ → Option (ℕ × ℕ)
pair_of a b = number_of 100 a >>= λ n. number_of 100 b >>= λ m. Some (n, m)

-- `A/B`, one word
abbrev pub fraction_of : List ℕ → Option (ℕ × ℕ)
fraction_of word = position (λ byte. byte == 47) word >>= λ at. pair_of (take at word) (drop (at + 1) word)

-- the setting that these words give
abbrev pub given_setting : List ℕ → List ℕ → List ℕ → List ℕ → Option Setting
given_setting d r l alpha =
    number_of 1024 d >>= λ components. number_of 128 r >>= λ degree. number_of 1000 l >>= λ width. fraction_of alpha >>= λ f.
    checked (record { d = components; r = degree; l_build = width; a = f.0; b = f.1 })

-- `once D R L A/B`
abbrev pub once_setting : List (List ℕ) → Option Setting
once_setting (name ∷ d ∷ r ∷ l ∷ alpha ∷ []) =
    if bytes_eq name (codes "once") then given_setting d r l alpha else None
once_setting words = None

-- what an index that is kept has besides: the width of beams, bytes of a code, and the points at which a graph freezes
pub record Keeping : Type 0 where
  pub w : ℕ
  pub m : ℕ
  pub freeze_at : ℕ

-- what the command `init` is given
pub record KeptSetting : Type 0 where
  pub graph : Setting
  pub keeping : Keeping

-- each number is within its limits, and a vector falls into whole parts
abbrev pub is_kept_within : KeptSetting → Bool
is_kept_within s =
    is_within s.graph && nat_le 1 s.keeping.w && nat_le s.keeping.w 16 && nat_le 1 s.keeping.m && nat_le s.keeping.m 64
    && (s.graph.d % s.keeping.m == 0) && nat_le 1 s.keeping.freeze_at && nat_le s.keeping.freeze_at 100000

abbrev pub kept_checked : Setting → Keeping → Option KeptSetting
kept_checked graph keeping =
    if is_kept_within (record { graph = graph; keeping = keeping }) then Some (record { graph = graph; keeping = keeping }) else None

-- `D R L A/B`, before their limits are tested together
abbrev pub graph_of : List ℕ → List ℕ → List ℕ → List ℕ → Option Setting
graph_of d r l alpha =
    number_of 1024 d >>= λ components. number_of 128 r >>= λ degree. number_of 1000 l >>= λ width. fraction_of alpha >>= λ f.
    Some (record { d = components; r = degree; l_build = width; a = f.0; b = f.1 })

-- `W M FREEZE`
abbrev pub keeping_of : List ℕ → List ℕ → List ℕ → Option Keeping
keeping_of w m freeze =
    number_of 16 w >>= λ beam. number_of 64 m >>= λ parts. number_of 100000 freeze >>= λ most.
    Some (record { w = beam; m = parts; freeze_at = most })

-- the setting that these words give
abbrev pub kept_given : Option Setting → Option Keeping → Option KeptSetting
kept_given graph keeping = graph >>= λ g. keeping >>= λ k. kept_checked g k

-- `init D R L A/B W M FREEZE`
abbrev pub init_setting : List (List ℕ) → Option KeptSetting
init_setting (name ∷ d ∷ r ∷ l ∷ alpha ∷ w ∷ m ∷ freeze ∷ []) =
    if bytes_eq name (codes "init") then kept_given (graph_of d r l alpha) (keeping_of w m freeze) else None
init_setting words = None

-- `run WORKERS`, with 1 to 16 workers
abbrev pub workers_of : List (List ℕ) → Option ℕ
workers_of (name ∷ workers ∷ []) =
    if bytes_eq name (codes "run") then (number_of 16 workers >>= λ n. if nat_le 1 n then Some n else None) else None
workers_of words = None

-- `truth` alone
abbrev pub is_truth : List (List ℕ) → Bool
is_truth (name ∷ []) = bytes_eq name (codes "truth")
is_truth words = false

-- `check` alone
abbrev pub is_check : List (List ℕ) → Bool
is_check (name ∷ []) = bytes_eq name (codes "check")
is_check words = false

-- the words of neither `run` nor `truth`, which are for one thread
pub record AreAlone (words : List (List ℕ)) : Type 0 where
  pub no_run : workers_of words ≡ None
  pub no_truth : is_truth words ≡ false

abbrev pub setting_of : Params → Setting
setting_of p = record { d = p.d; r = p.r; l_build = p.l_build; a = p.a; b = p.b }

-- the parameters of an index of `once` with this setting: one part of a code, beams of one point, and graphs that freeze at 100,000 points
pub record IsMade (setting : Setting) (p : Params) : Type 0 where
  pub given : setting_of p ≡ setting
  pub beam : p.w ≡ 1
  pub code : p.m ≡ 1
  pub freeze : p.freeze_at ≡ 100000

-- the parameters that these words give
pub record IsOnce (words : List (List ℕ)) (p : Params) : Type 0 where
  pub setting : Setting
  pub given : once_setting words ≡ Some setting
  pub made : IsMade setting p

-- the setting of these parameters
abbrev pub kept_setting_of : Params → KeptSetting
kept_setting_of p = record { graph = setting_of p; keeping = record { w = p.w; m = p.m; freeze_at = p.freeze_at } }

-- the parameters that these words of `init` give
abbrev pub IsInit : List (List ℕ) → Params → Type 0
IsInit words p = init_setting words ≡ Some (kept_setting_of p)
