use Rattle.std.proofs.Common.{◌≡◌, ℕ, ◌<◌, ◌≤◌, None, Some, option_map, sym, ap, subst, ◌∙◌}
use Rattle.lfs_block.specs.Change.{change_of}
use Rattle.lfs_block.specs.Disk.{Disk, block_of}
use Rattle.lfs_block.specs.Overlay.{count_of}
use Rattle.lfs_block.proofs.OverlayLemmas.{laid-is_disk, laid-none, laid-some}
use Rattle.lfs_block.proofs.ResizeLemmas.{block_at-behind, block_at-within}
use Rattle.lfs_block.proofs.overlay.OverlayBlocks.block.Goals as goal

pub returns-in-Some : goal.returns-in-Some
returns-in-Some g c =
    let here = c.self.inside in
    let is = laid-is_disk here.side here.patch.now here.erased.now (g.B.Blocks.disk here.base.now) c.self.invariant in
    let within : c.args.n < count_of here.side here.patch.now =
    subst (λ (k : ℕ). c.args.n < k) (sym (ap (λ (d : Disk). d.count) c.self.view_is) ∙ is.count) c.requires in
    let some : change_of c.args.n here.patch.now.changes ≡ Some c.in-Some.record.now =
    ap (change_of c.args.n) (sym c.records.ensures.changes) ∙ sym c.record_of.ensures ∙ ap (option_map (λ r. r.now)) c.in-Some.is in
    c.side.ensures
    ∙ sym (laid-some here.side here.patch.now here.erased.now (g.B.Blocks.disk here.base.now) c.args.n c.in-Some.record.now
    c.self.invariant within some)
    ∙ ap (λ (d : Disk). block_of d c.args.n) c.self.view_is

pub returns-in-None : goal.returns-in-None
returns-in-None g c =
    let here = c.self.inside in
    let base : Disk = g.B.Blocks.disk here.base.now in
    let is = laid-is_disk here.side here.patch.now here.erased.now base c.self.invariant in
    let within : c.args.n < count_of here.side here.patch.now =
    subst (λ (k : ℕ). c.args.n < k) (sym (ap (λ (d : Disk). d.count) c.self.view_is) ∙ is.count) c.requires in
    let none : change_of c.args.n here.patch.now.changes ≡ None =
    ap (change_of c.args.n) (sym c.records.ensures.changes) ∙ sym c.record_of.ensures ∙ ap (option_map (λ r. r.now)) c.in-None.is in
    let has : c.args.n < base.count = subst (λ (k : ℕ). c.args.n < k) c.count.ensures c.if-n-count.true in
    c.block.ensures
    ∙ sym (block_at-within base c.args.n has)
    ∙ sym (laid-none here.side here.patch.now here.erased.now base c.args.n c.self.invariant within none)
    ∙ ap (λ (d : Disk). block_of d c.args.n) c.self.view_is

pub returns-in-None-2 : goal.returns-in-None-2
returns-in-None-2 g c =
    let here = c.self.inside in
    let base : Disk = g.B.Blocks.disk here.base.now in
    let is = laid-is_disk here.side here.patch.now here.erased.now base c.self.invariant in
    let within : c.args.n < count_of here.side here.patch.now =
    subst (λ (k : ℕ). c.args.n < k) (sym (ap (λ (d : Disk). d.count) c.self.view_is) ∙ is.count) c.requires in
    let none : change_of c.args.n here.patch.now.changes ≡ None =
    ap (change_of c.args.n) (sym c.records.ensures.changes) ∙ sym c.record_of.ensures ∙ ap (option_map (λ r. r.now)) c.in-None.is in
    let behind : base.count ≤ c.args.n = subst (λ (k : ℕ). k ≤ c.args.n) c.count.ensures c.if-n-count.false in
    c.self.invariant.erased
    ∙ sym (block_at-behind base c.args.n behind)
    ∙ sym (laid-none here.side here.patch.now here.erased.now base c.args.n c.self.invariant within none)
    ∙ ap (λ (d : Disk). block_of d c.args.n) c.self.view_is
