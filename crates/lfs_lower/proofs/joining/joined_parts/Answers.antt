-- The superblocks are taken off, and the last one is put before the first part's entries.
use Rattle.std.proofs.Common.{◌≡◌, List, ap, sym, ◌∙◌, subst}
use Rattle.std.specs.Prelude.{All}
use Rattle.lfs_fs.specs.Gathering.{PairPart}
use Rattle.lfs_lower.specs.Joining.{with_one}
use Rattle.lfs_lower.proofs.JoinedComplete.{AreComplete, made_one, parts_complete}
use Rattle.lfs_lower.proofs.joining.joined_parts.Goals as goal

pub returns : goal.returns
returns g c =
    let ps : List PairPart = c.in_ok-parts.parts.items in
    let led : List PairPart = c.lead_with.new.parts.items in
    let one : led ≡ with_one ps =
    made_one ps c.take_superblocks-last.new.parts.items led c.take_superblocks-last.result c.in_ok-lead_with.ensures
    c.take_superblocks-last.ensures.last c.take_superblocks-last.ensures.stripped in
    record {
      is = one ∙ ap with_one c.in_ok-parts.ensures.parts;
      complete = subst (All AreComplete) (sym one) (parts_complete ps c.in_ok-parts.ensures.complete);
    }
