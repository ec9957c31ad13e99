-- A planned patch makes the command's equation.
use Rattle.std.proofs.Common.{◌≡◌, Option, ap, sym, ◌∙◌, subst}
use Rattle.std.proofs.Math.Path.{fun_ext}
use Rattle.lfs_block.specs.Disk.{Disk}
use Rattle.lfs_fs.specs.Path.{Path}
use Rattle.lfs_fs.specs.Volume.{Volume}
use Rattle.lfs_fs.specs.Tree.{Node, tree}
use Rattle.lfs_fs.specs.Reading.{reading_of}
use Rattle.lfs_fs.specs.Holds.{VolumesAreOne}
use Rattle.lfs_command.specs.Equation.{equation}
use Rattle.lfs_command.specs.Accepted.{Follows}
use Rattle.lfs_law.proofs.CarriedFollow.{carried_follow}
use Rattle.lfs_history.specs.Laws.{IsCarriedOut, CommandsAreEquations, CommandsPushEquations}
use Rattle.lfs_history.proofs.MoveLemmas.{Follow}

pub equations : VolumesAreOne → Follow → CommandsAreEquations
equations one law d asked p v t plans holds (w, shown, sound, is) =
    let u = plans.volume in
    let c = plans.command in
    let after : Volume = plans.next in
    let made : Follows u c after = carried_follow law.cut law.clean c u after plans.carried in
    let follows : Follows v c after = subst (λ (x : Volume). Follows x c after) (one (reading_of d) u v plans.holds holds) made in
    let before : t ≡ tree v = fun_ext (λ (q : Path). is q ∙ ap (λ (x : Volume). tree x q) (one (reading_of d) w v shown holds)) in
    record {
      command = c;
      spells = plans.spells;
      volume = after;
      holds = plans.after;
      follows = follows;
      mounts = (after, plans.after, follows.sound, λ q. ap (λ (f : Path → Option Node). equation c f q) before ∙ sym (follows.at q));
    }

pub push_equations : CommandsAreEquations → CommandsPushEquations
push_equations equation_of asked keep old new v t does holds mounts =
    let p = does.pushes in
    let P : Disk → Type 0 = λ (d : Disk). IsCarriedOut asked d v t in
    record {
      past = p.past;
      future = p.future;
      present = subst P (sym p.present) (equation_of old.present asked does.change v t does.plans holds mounts);
    }
