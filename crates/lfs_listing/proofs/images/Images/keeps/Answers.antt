-- The blocks are the same, and the patch names none of them.
use Rattle.std.proofs.Common.{rules, ◌≡◌, ◌<◌, List, All, ap, sym, subst, ◌∙◌}
use Rattle.std.specs.Prelude.{None}
use Rattle.lfs_block.specs.Change.{Change, change_of}
use Rattle.lfs_block.specs.Disk.{Disk}
use Rattle.lfs_file.specs.Content.{content}
use Rattle.lfs_listing.specs.Comparing.{Leads}
use Rattle.lfs_listing.proofs.KeptLemmas.{contents_left}
use Rattle.lfs_listing.proofs.images.Images.keeps.Goals as goal

pub returns-then-eq : goal.returns-then-eq
returns-then-eq g c = λ yes size.
    let d : Disk = g.A.Blocks.disk c.self.inside.first.now in
    let e : Disk = g.B.Blocks.disk c.self.inside.second.now in
    let same : c.args.blocks.now ≡ c.args.others.now = search rules in
    let unnamed : All (λ b. change_of b c.in-Some.patch.now.changes ≡ None) c.args.blocks.now =
    subst (λ (cs : List Change). All (λ b. change_of b cs ≡ None) c.args.blocks.now) c.records.ensures.changes (c.names_none.ensures yes) in
    let leads : Leads c.in-Some.patch.now d e = search rules in
    let below : All (λ b. b < d.count) c.args.blocks.now =
    subst (λ (p : Disk × Disk). All (λ b. b < p.0.count) c.args.blocks.now) (sym c.self.view_is) c.requires in
    ap (λ (p : Disk × Disk). content p.0 size c.args.blocks.now) (sym c.self.view_is)
    ∙ contents_left c.chains_stay_on_their_blocks.ensures.content c.applied_patches_change_their_blocks.ensures.disk
    c.applied_patches_change_their_blocks.ensures.blocks c.in-Some.patch.now d e c.args.blocks.now c.args.others.now
    c.size-size.ensures.disk c.records.ensures.growth leads below same unnamed size
    ∙ ap (λ (p : Disk × Disk). content p.1 size c.args.others.now) c.self.view_is
