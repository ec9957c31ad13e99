-- A block is the new one, or else the image's.
use Rattle.std.proofs.Common.{arith, ◌≡◌, ◌<◌, None, ap, sym, ◌∙◌, subst}
use Rattle.std.proofs.lemmas.List.{get_or_read_under}
use Rattle.lfs_block.specs.Disk.{block_of}
use Rattle.lfs_adopt.specs.Draft.{Drafted, drafted}
use Rattle.lfs_adopt.proofs.Drafts.{drafted_count, drafted_new, drafted_old}
use Rattle.lfs_adopt.proofs.draft.DraftBlocks.block.Goals as goal

pub index-requires : goal.index-requires
index-requires c =
    let same = ap (λ (f : Drafted). f.base.count) c.self.view_is in
    omega (arith, c.requires, c.self.inside.blocks.ok.0, c.self.invariant.len, same, drafted_count c.args.self.now)

pub block-requires : goal.block-requires
block-requires c =
    let same = ap (λ (f : Drafted). f.base.count) c.self.view_is in
    omega (arith, c.requires, same, drafted_count c.args.self.now)

pub returns-in-Some : goal.returns-in-Some
returns-in-Some c =
    let laws = c.put_blocks_stand.ensures in
    let same = ap (λ (f : Drafted). f.base.count) c.self.view_is in
    let f : Drafted = record { base = c.self.inside.image.now.disk; blocks = c.self.inside.blocks.items } in
    let within : c.args.n < f.base.count = omega (arith, c.requires, same, drafted_count c.args.self.now) in
    let there = get_or_read_under f.blocks c.args.n f.base.count c.index.result.now None c.index.ensures within (sym c.self.invariant.len) in
    subst (λ (h : Drafted). c.as_slice.result.now ≡ block_of (drafted h) c.args.n) c.self.view_is
    (c.as_slice.ensures.value ∙ c.block.view_is
    ∙ sym (drafted_new laws.block laws.others laws.disk f c.args.n c.in-Some.block c.self.invariant within (sym there ∙ c.in-Some.is)))

pub returns-in-None : goal.returns-in-None
returns-in-None c =
    let laws = c.put_blocks_stand.ensures in
    let same = ap (λ (f : Drafted). f.base.count) c.self.view_is in
    let f : Drafted = record { base = c.self.inside.image.now.disk; blocks = c.self.inside.blocks.items } in
    let within : c.args.n < f.base.count = omega (arith, c.requires, same, drafted_count c.args.self.now) in
    let there = get_or_read_under f.blocks c.args.n f.base.count c.index.result.now None c.index.ensures within (sym c.self.invariant.len) in
    subst (λ (h : Drafted). c.block-in-None.result.now ≡ block_of (drafted h) c.args.n) c.self.view_is
    (c.block-in-None.ensures
    ∙ sym (drafted_old laws.block laws.others laws.disk f c.args.n c.self.invariant within (sym there ∙ c.in-None.is)))
