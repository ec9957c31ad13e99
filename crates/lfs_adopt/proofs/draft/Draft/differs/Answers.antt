-- A new block differs from the image's if its bytes do; a block that isn't new is the image's.
use Rattle.std.proofs.Common.{arith, ◌≡◌, ◌<◌, List, ℕ, None, false, ap, sym, ◌∙◌, subst}
use Rattle.std.proofs.lemmas.List.{get_or_read_under}
use Rattle.std.specs.Prelude.{bytes_eq, not}
use Rattle.lfs_block.specs.Disk.{block_of}
use Rattle.lfs_adopt.specs.Changed.{is_changed}
use Rattle.lfs_adopt.specs.Draft.{Drafted, drafted}
use Rattle.lfs_adopt.proofs.Drafts.{drafted_new, drafted_old, same_is_unchanged}
use Rattle.lfs_adopt.proofs.draft.Draft.differs.Goals as goal

pub returns-in-Some : goal.returns-in-Some
returns-in-Some c =
    let laws = c.put_blocks_stand.ensures in
    let same = ap (λ (f : Drafted). f.base.count) c.self.view_is in
    let f : Drafted = record { base = c.self.inside.image.now.disk; blocks = c.self.inside.blocks.items } in
    let within : c.args.n < f.base.count = omega (arith, c.requires, same) in
    let there = get_or_read_under f.blocks c.args.n f.base.count c.index.result.now None c.index.ensures within (sym c.self.invariant.len) in
    let new = drafted_new laws.block laws.others laws.disk f c.args.n c.in-Some.block c.self.invariant
    within (sym there ∙ c.in-Some.is) in
    subst (λ (h : Drafted). c.ne.result ≡ is_changed h.base (drafted h) c.args.n) c.self.view_is
    (c.ne.ensures
    ∙ ap (λ (bytes : List ℕ). not (bytes_eq bytes c.as_slice.result.now)) c.block.ensures
    ∙ ap (λ (bytes : List ℕ). not (bytes_eq (block_of f.base c.args.n) bytes)) (c.as_slice.ensures.value ∙ c.block-in-Some.view_is ∙ sym new))

pub returns-in-None : goal.returns-in-None
returns-in-None c =
    let laws = c.put_blocks_stand.ensures in
    let same = ap (λ (f : Drafted). f.base.count) c.self.view_is in
    let f : Drafted = record { base = c.self.inside.image.now.disk; blocks = c.self.inside.blocks.items } in
    let within : c.args.n < f.base.count = omega (arith, c.requires, same) in
    let there = get_or_read_under f.blocks c.args.n f.base.count c.index.result.now None c.index.ensures within (sym c.self.invariant.len) in
    let old = drafted_old laws.block laws.others laws.disk f c.args.n c.self.invariant
    within (sym there ∙ c.in-None.is) in
    subst (λ (h : Drafted). false ≡ is_changed h.base (drafted h) c.args.n) c.self.view_is
    (sym (same_is_unchanged f.base (drafted f) c.args.n old))
