-- One more new block is put into the disk.
use Rattle.std.proofs.Common.{arith, ◌≡◌, List, ℕ, length, ap, sym, ◌∙◌, subst}
use Rattle.lfs_block.specs.Bytes.{IsBytes}
use Rattle.lfs_block.specs.Disk.{put}
use Rattle.lfs_adopt.specs.Draft.{Drafted, drafted}
use Rattle.lfs_adopt.proofs.Drafts.{drafted_count, drafted_size, written_draft, written_is}
use Rattle.lfs_adopt.proofs.draft.DraftRewrite.rewrite.Goals as goal

pub index_mut-requires : goal.index_mut-requires
index_mut-requires c =
    let same = ap (λ (f : Drafted). f.base.count) c.self.view_is in
    omega (arith, c.requires.within, c.self.inside.blocks.ok.0, c.self.invariant.len, same, drafted_count c.args.self.now)

pub invariant_of-self : goal.invariant_of-self
invariant_of-self c =
    let laws = c.put_blocks_stand.ensures in
    let count = ap (λ (f : Drafted). f.base.count) c.self.view_is in
    let size = ap (λ (f : Drafted). f.base.size) c.self.view_is in
    let f : Drafted = record { base = c.self.inside.image.now.disk; blocks = c.self.inside.blocks.items } in
    let bytes : c.in_ok-bytes.bytes.items ≡ c.args.bytes.now = c.in_ok-bytes.ensures.items_if_clones_equal (λ x y same. same) in
    let is : IsBytes c.in_ok-bytes.bytes.items = subst IsBytes (sym bytes) (λ i. omega (arith, c.type_inv.bytes i)) in
    written_draft laws.block laws.others laws.disk c.images_are_their_blocks.ensures f c.args.n c.in_ok-bytes.bytes.items c.self.invariant
    (omega (arith, c.requires.within, count, drafted_count c.args.self.now))
    (ap length bytes ∙ c.requires.complete ∙ drafted_size c.args.self.now ∙ sym size, is)

pub returns-clause-put : goal.returns-clause-put
returns-clause-put c =
    let laws = c.put_blocks_stand.ensures in
    let count = ap (λ (f : Drafted). f.base.count) c.self.view_is in
    let size = ap (λ (f : Drafted). f.base.size) c.self.view_is in
    let f : Drafted = record { base = c.self.inside.image.now.disk; blocks = c.self.inside.blocks.items } in
    let bytes : c.in_ok-bytes.bytes.items ≡ c.args.bytes.now = c.in_ok-bytes.ensures.items_if_clones_equal (λ x y same. same) in
    let is : IsBytes c.in_ok-bytes.bytes.items = subst IsBytes (sym bytes) (λ i. omega (arith, c.type_inv.bytes i)) in
    written_is laws.block laws.others laws.disk c.images_are_their_blocks.ensures f c.args.n c.in_ok-bytes.bytes.items c.self.invariant
    (omega (arith, c.requires.within, count, drafted_count c.args.self.now))
    (ap length bytes ∙ c.requires.complete ∙ drafted_size c.args.self.now ∙ sym size, is)
    ∙ ap (λ (new : List ℕ). put c.args.n new (drafted f)) bytes
    ∙ ap (λ (h : Drafted). put c.args.n c.args.bytes.now (drafted h)) c.self.view_is
