use Rattle.std.proofs.Common.{rules, ◌≡◌, ◌∙◌, ◌*◌, ◌/◌, ◌%◌, ℕ, ap, refl, subst, sym}
use Rattle.lfs_texts.specs.Sizes.{SaysBytes}
use Rattle.lfs_texts.proofs.SizeLemmas.{in_blocks}
use Rattle.lfs_texts.proofs.sizes.blocks_said.Goals as goal

pub returns-in_default-clause-refused : goal.returns-in_default-clause-refused
returns-in_default-clause-refused c = c.in_default.ensures.none refl

pub returns-clause-blocks : goal.returns-clause-blocks
returns-clause-blocks c =
    let bytes = c.in-Some.bytes in
    let size : c.from-size.result ≡ c.args.block = search rules in
    let complete : bytes % c.from-size.result ≡ 0 = c.if-bytes-size-ne0.false in
    let same : bytes / c.from-size.result * c.args.block ≡ bytes =
    ap (λ (n : ℕ). bytes / c.from-size.result * n) (sym size) ∙ in_blocks bytes c.from-size.result complete in (
      subst (λ (n : ℕ). SaysBytes c.args.text.now n) (sym same) c.in-Some.ensures.bytes,
      c.if-count-lt-LEAST_COUNT.false,
      c.if-count-gt-MOST_COUNT.false,
    )
