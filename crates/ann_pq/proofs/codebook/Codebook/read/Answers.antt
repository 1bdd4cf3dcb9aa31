use Rattle.std.proofs.Common.{◌≡◌, Option, None, ℕ, ◌+◌, ◌*◌, ◌/◌, ◌%◌, List, length, Result, Ok, Err, ap, subst, sym, ◌∙◌, arith}
use Rattle.std.specs.Result.{IsErrAnd, IfOk}
use Rattle.std.proofs.lemmas.Bool.Decides.{nat_tests}
use Rattle.ann_pq.specs.declared.refused.CodebookRefused.{CodebookRefused}
use Rattle.ann_pq.specs.declared.refused.CodebookRefused.TheVariants.{Memory}
use Rattle.ann_pq.specs.Format.{fault, named, codebook}
use Rattle.ann_pq.specs.Codebook.{AreSizes}
use Rattle.ann_pq.specs.Turned.{IsTurned}
use Rattle.ann_pq.proofs.Places.{whole_width}
use Rattle.ann_pq.proofs.codebook.Codebook.read.Goals as goal

-- bytes without a fault are as long as a codebook is
long : (d m : ℕ) (bytes : List ℕ) → None ≡ fault d m bytes → length bytes ≡ 12 + 256 * d
long d m bytes sound = grind (arith, nat_tests)

-- want of memory is the error of bytes without a fault alone
want_of_memory : {X : Type 0} (P : X → Type 0) (found : Option CodebookRefused) (result : Result X CodebookRefused) → IsErrAnd result (λ e. e ≡ Memory) → None ≡ found → record { refused : named result ≡ found; value : IfOk result P }
want_of_memory P found (Ok x) is sound = absurd is
want_of_memory {X = X} P found (Err e) is sound = record { refused = ap (λ e. named {X = X} (Err e)) is ∙ sound; value = tt }

pub returns-in_err-held : goal.returns-in_err-held
returns-in_err-held c = want_of_memory _ _ c.from_residual-in_err-held.result c.from_residual-in_err-held.ensures.1 c.in_ok-check.ensures

pub returns-in_err-turned : goal.returns-in_err-turned
returns-in_err-turned c = want_of_memory _ _ c.from_residual-in_err-turned.result c.from_residual-in_err-turned.ensures.1 c.in_ok-check.ensures

pub turn-requires-clause-bytes : goal.turn-requires-clause-bytes
turn-requires-clause-bytes c = long c.args.d c.args.m c.args.bytes.now c.in_ok-check.ensures ∙ ap (λ n. 12 + 256 * n) (sym c.from.ensures)

pub turn-requires-clause-whole : goal.turn-requires-clause-whole
turn-requires-clause-whole c = subst (λ n. n % c.from-2.result ≡ 0) (sym c.from.ensures) (subst (λ n. c.args.d % n ≡ 0) (sym c.from-2.ensures) (whole_width c.args.d c.args.m c.requires.whole))

pub nonzero_div-d : goal.nonzero_div-d
nonzero_div-d c = omega arith

pub invariant_of-result : goal.invariant_of-result
invariant_of-result c =
    let same : c.args.bytes.now ≡ c.in_ok-held.held.items = sym (c.in_ok-held.ensures.items_if_clones_equal (λ _ _ e. e)) in
    subst (λ (held : List ℕ). AreSizes c.args.d c.args.m × (length held ≡ 12 + 256 * c.args.d) × (length c.in_ok-turned.turned.items ≡ 256 * c.args.d) × IsTurned (c.args.d / c.args.m) c.args.d held c.in_ok-turned.turned.items × (fault c.args.d c.args.m held ≡ None)) same (
      c.requires,
      long c.args.d c.args.m c.args.bytes.now c.in_ok-check.ensures,
      c.in_ok-turned.ensures.length ∙ ap (λ n. 256 * n) c.from.ensures,
      subst (λ w. IsTurned w c.args.d c.args.bytes.now c.in_ok-turned.turned.items) c.from-2.ensures (subst (λ n. IsTurned c.from-2.result n c.args.bytes.now c.in_ok-turned.turned.items) c.from.ensures c.in_ok-turned.ensures.turned),
      sym c.in_ok-check.ensures,
    )

pub returns : goal.returns
returns c = record {
  refused = c.in_ok-check.ensures;
  value = ap (codebook c.args.d c.args.m) (c.in_ok-held.ensures.items_if_clones_equal (λ _ _ e. e));
}
