-- Two files stand for one thing alone.
use Rattle.std.proofs.Common.{◌≡◌, ◌≤◌, ◌%◌, ℕ, List, sym, ap, ap₂, subst, ◌∙◌}
use Rattle.std.proofs.Math.Bridge.{le_prop}
use Rattle.std.proofs.Math.Nat.{ℕ_set}
use Rattle.ann_types.specs.Limits.{IsWithinLimits}
use Rattle.ann_types.specs.declared.entry.Entry.{Entry}
use Rattle.ann_types.specs.declared.params.Params.{Params}
use Rattle.ann_pq.specs.Codebook.{CodebookView}
use Rattle.ann_preamble.specs.Preamble.{Said}
use Rattle.ann_preamble.specs.declared.base.Base.{Base}
use Rattle.ann_log.specs.Text.{Held, holds, said_of, StandsAt}

-- ---- parameters with the same numbers are the same

module _ (d r l_build a b w m freeze_at : ℕ) where
  abbrev limits : (1 ≤ m) × (m ≤ 64) → (1 ≤ d) × (d ≤ 1024) → d % m ≡ 0 → (2 ≤ r) × (r ≤ 128) → (1 ≤ l_build) × (l_build ≤ 1000) → (1 ≤ b) × (b ≤ a) × (a ≤ 100) → (1 ≤ w) × (w ≤ 16) → (1 ≤ freeze_at) × (freeze_at ≤ 100000) → IsWithinLimits d r l_build a b w m freeze_at
  limits x1 x2 x3 x4 x5 x6 x7 x8 = record { code_bytes = x1; components = x2; parts = x3; neighbours = x4; width = x5; alpha = x6; beam = x7; freeze = x8 }

two_same : (i j k n : ℕ) (x y : (i ≤ j) × (k ≤ n)) → x ≡ y
two_same i j k n x y = ap₂ (λ (p : i ≤ j) (q : k ≤ n). let z : (i ≤ j) × (k ≤ n) = (p, q) in z) (le_prop x.0 y.0) (le_prop x.1 y.1)

three_same : (i j k n u v : ℕ) (x y : (i ≤ j) × (k ≤ n) × (u ≤ v)) → x ≡ y
three_same i j k n u v x y =
    ap (λ (p : i ≤ j). let z : (i ≤ j) × (k ≤ n) × (u ≤ v) = (p, x.1, x.2) in z) (le_prop x.0 y.0)
    ∙ ap (λ (p : k ≤ n). let z : (i ≤ j) × (k ≤ n) × (u ≤ v) = (y.0, p, x.2) in z) (le_prop x.1 y.1)
    ∙ ap (λ (p : u ≤ v). let z : (i ≤ j) × (k ≤ n) × (u ≤ v) = (y.0, y.1, p) in z) (le_prop x.2 y.2)

limits_same : (d r l_build a b w m freeze_at : ℕ) (x y : IsWithinLimits d r l_build a b w m freeze_at) → x ≡ y
limits_same d r l_build a b w m freeze_at x y =
    ap (λ t. limits d r l_build a b w m freeze_at t x.components x.parts x.neighbours x.width x.alpha x.beam x.freeze) (two_same 1 m m 64 x.code_bytes y.code_bytes)
    ∙ ap (λ t. limits d r l_build a b w m freeze_at y.code_bytes t x.parts x.neighbours x.width x.alpha x.beam x.freeze) (two_same 1 d d 1024 x.components y.components)
    ∙ ap (λ t. limits d r l_build a b w m freeze_at y.code_bytes y.components t x.neighbours x.width x.alpha x.beam x.freeze) (ℕ_set (d % m) 0 x.parts y.parts)
    ∙ ap (λ t. limits d r l_build a b w m freeze_at y.code_bytes y.components y.parts t x.width x.alpha x.beam x.freeze) (two_same 2 r r 128 x.neighbours y.neighbours)
    ∙ ap (λ t. limits d r l_build a b w m freeze_at y.code_bytes y.components y.parts y.neighbours t x.alpha x.beam x.freeze) (two_same 1 l_build l_build 1000 x.width y.width)
    ∙ ap (λ t. limits d r l_build a b w m freeze_at y.code_bytes y.components y.parts y.neighbours y.width t x.beam x.freeze) (three_same 1 b b a a 100 x.alpha y.alpha)
    ∙ ap (λ t. limits d r l_build a b w m freeze_at y.code_bytes y.components y.parts y.neighbours y.width y.alpha t x.freeze) (two_same 1 w w 16 x.beam y.beam)
    ∙ ap (λ t. limits d r l_build a b w m freeze_at y.code_bytes y.components y.parts y.neighbours y.width y.alpha y.beam t) (two_same 1 freeze_at freeze_at 100000 x.freeze y.freeze)

abbrev params_with : (d r l_build a b w m freeze_at : ℕ) → IsWithinLimits d r l_build a b w m freeze_at → Params
params_with d r l_build a b w m freeze_at x = record { d = d; r = r; l_build = l_build; a = a; b = b; w = w; m = m; freeze_at = freeze_at; in_limits = x }

numbers_same : (q : Params) (d r l_build a b w m freeze_at : ℕ) → d ≡ q.d → r ≡ q.r → l_build ≡ q.l_build → a ≡ q.a → b ≡ q.b → w ≡ q.w → m ≡ q.m → freeze_at ≡ q.freeze_at → (x : IsWithinLimits d r l_build a b w m freeze_at) → params_with d r l_build a b w m freeze_at x ≡ q
numbers_same q d r l_build a b w m freeze_at e0 e1 e2 e3 e4 e5 e6 e7 =
    (subst (λ (t : ℕ). (x : IsWithinLimits t r l_build a b w m freeze_at) → params_with t r l_build a b w m freeze_at x ≡ q) (sym e0)
    (subst (λ (t : ℕ). (x : IsWithinLimits q.d t l_build a b w m freeze_at) → params_with q.d t l_build a b w m freeze_at x ≡ q) (sym e1)
    (subst (λ (t : ℕ). (x : IsWithinLimits q.d q.r t a b w m freeze_at) → params_with q.d q.r t a b w m freeze_at x ≡ q) (sym e2)
    (subst (λ (t : ℕ). (x : IsWithinLimits q.d q.r q.l_build t b w m freeze_at) → params_with q.d q.r q.l_build t b w m freeze_at x ≡ q) (sym e3)
    (subst (λ (t : ℕ). (x : IsWithinLimits q.d q.r q.l_build q.a t w m freeze_at) → params_with q.d q.r q.l_build q.a t w m freeze_at x ≡ q) (sym e4)
    (subst (λ (t : ℕ). (x : IsWithinLimits q.d q.r q.l_build q.a q.b t m freeze_at) → params_with q.d q.r q.l_build q.a q.b t m freeze_at x ≡ q) (sym e5)
    (subst (λ (t : ℕ). (x : IsWithinLimits q.d q.r q.l_build q.a q.b q.w t freeze_at) → params_with q.d q.r q.l_build q.a q.b q.w t freeze_at x ≡ q) (sym e6)
    (subst (λ (t : ℕ). (x : IsWithinLimits q.d q.r q.l_build q.a q.b q.w q.m t) → params_with q.d q.r q.l_build q.a q.b q.w q.m t x ≡ q) (sym e7)
    (λ x. ap (params_with q.d q.r q.l_build q.a q.b q.w q.m q.freeze_at) (limits_same q.d q.r q.l_build q.a q.b q.w q.m q.freeze_at x q.in_limits))))))))))

params_same : (was now : Held) (n k : ℕ) → said_of was n ≡ said_of now k → was.params ≡ now.params
params_same was now n k same =
    let p = was.params in
    numbers_same now.params p.d p.r p.l_build p.a p.b p.w p.m p.freeze_at
    (ap (λ (s : Said). s.fields.d) same)
    (ap (λ (s : Said). s.fields.r) same)
    (ap (λ (s : Said). s.fields.l_build) same)
    (ap (λ (s : Said). s.fields.a) same)
    (ap (λ (s : Said). s.fields.b) same)
    (ap (λ (s : Said). s.fields.w) same)
    (ap (λ (s : Said). s.fields.m) same)
    (ap (λ (s : Said). s.fields.freeze_at) same)
    p.in_limits

-- ---- what is held

holds_parts : (s t : Said) (es fs : List Entry) → holds s es ≡ holds t fs → (s ≡ t) × (es ≡ fs)
holds_parts s t es fs same = (cc, cc)

pub held_same : (was now : Held) (n k : ℕ) (first second : List ℕ) → StandsAt n was first second → StandsAt k now first second → was ≡ now
held_same was now n k first second one two =
    let both = holds_parts (said_of was n) (said_of now k) was.entries now.entries (sym one ∙ two) in
    ap (λ (p : Params). let h : Held = record { params = p; book = was.book; base = was.base; entries = was.entries } in h) (params_same was now n k both.0)
    ∙ ap (λ (b : CodebookView). let h : Held = record { params = now.params; book = b; base = was.base; entries = was.entries } in h) (ap (λ (s : Said). s.book) both.0)
    ∙ ap (λ (b : Base). let h : Held = record { params = now.params; book = now.book; base = b; entries = was.entries } in h) (ap (λ (s : Said). s.fields.base) both.0)
    ∙ ap (λ (t : List Entry). let h : Held = record { params = now.params; book = now.book; base = now.base; entries = t } in h) both.1
