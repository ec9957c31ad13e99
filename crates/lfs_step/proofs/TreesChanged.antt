-- An accepted change of a whole tree leaves an image that mounts to the tree that it says.
use Rattle.std.proofs.Common.{◌≡◌, ℕ, List, [], ◌∷◌, Option, refl, ap, sym, ◌∙◌, subst}
use Rattle.std.specs.List.{AllZip}
use Rattle.lfs_block.specs.Disk.{Disk, image_of}
use Rattle.lfs_fs.specs.Holds.{VolumesAreOne}
use Rattle.lfs_fs.specs.Mounted.{IsMountOf, MountedValue}
use Rattle.lfs_fs.specs.Mounts.{Mounts, TreesAreOne}
use Rattle.lfs_fs.specs.Path.{Path, TextsSpellOnePath}
use Rattle.lfs_fs.specs.Row.{PathsAreOrdered}
use Rattle.lfs_fs.specs.Tree.{Node, tree}
use Rattle.lfs_command.specs.Command.{Asked, Command, Spells}
use Rattle.lfs_command.specs.Equation.{equation}
use Rattle.lfs_command.specs.Planned.{Plans}
use Rattle.lfs_history.specs.History.{History}
use Rattle.lfs_history.specs.Taking.{Together}
use Rattle.lfs_history.specs.Together.{DoesTogether, equations as equations_together}
use Rattle.lfs_request.specs.declared.outcome.Outcome.{Outcome}
use Rattle.lfs_change.specs.Change.{Denotes, IsChanged}
use Rattle.lfs_change.specs.TogetherLaws.{BytesAreChangedTogether}
use Rattle.lfs_change.proofs.ChangeLemmas.{denoted_present, one_taken}
use Rattle.lfs_sync.specs.SyncLaws.{RowsAreHeld, TextsSpellTheirCommands}
use Rattle.lfs_sync.specs.Synced.{equations_of}
use Rattle.lfs_step.specs.declared.step.Step.TheVariants.{Tree}
use Rattle.lfs_step.specs.Outcome.{Given}
use Rattle.lfs_step.specs.TreeLaws.{EqualTreesStay, TreesAreChanged, said}
use Rattle.lfs_step.proofs.EquationsMet.{done}
use Rattle.lfs_step.proofs.TreeSaid.{TakesOne, no_commands, same_said, says_commands}

-- equations_of one after another, as a history has them
same_equations : (cs : List Command) (t : Path → Option Node) (p : Path) → equations_together cs t p ≡ equations_of cs t p
same_equations [] t p = refl
same_equations (c ∷ cs) t p = same_equations cs (equation c t) p

-- an image mounts to each tree that is the same at each path
mounts_as : (d : Disk) (t u : Path → Option Node) → Mounts d t → ((p : Path) → t p ≡ u p) → Mounts d u
mounts_as d t u (v, holds, sound, at) same = (v, holds, sound, λ p. sym (same p) ∙ at p)

here : (d : Disk) (m : MountedValue) (is : IsMountOf d m) → Mounts d (tree is.volume)
here d m is = (is.volume, is.holds, is.sound, λ p. refl)

takes_one : (asked : List Asked) (keep : Option ℕ) (g : Given) (o : Outcome)
    → IsChanged (Together asked keep ∷ []) (Denotes g.size g.image g.journal) o → TakesOne (image_of g.size g.image) asked
takes_one asked keep g o is a lone =
    let does = subst (λ (l : List Asked). DoesTogether l keep is.old is.new) lone (one_taken (Together asked keep) is.old is.new is.takes) in (
      does.plans.first,
      subst (λ (d : Disk). Plans d a does.plans.first) (denoted_present (image_of g.size g.image) g.journal is.old is.denotes.1) does.plans.plans.0,
    )

nothing_done : (asked : List Asked) (keep : Option ℕ) (g : Given) (o : Outcome)
    → IsChanged (Together asked keep ∷ []) (Denotes g.size g.image g.journal) o → asked ≡ [] → o.image.items ≡ g.image
nothing_done asked keep g o is none =
    let same = subst (λ (l : List Asked). DoesTogether l keep is.old is.new) none (one_taken (Together asked keep) is.old is.new is.takes) in
    is.image_is
    ∙ ap (λ (h : History). h.present.bytes) same
    ∙ ap (λ (d : Disk). d.bytes) (denoted_present (image_of g.size g.image) g.journal is.old is.denotes.1)

module _ (texts : TextsSpellOnePath) (one : VolumesAreOne) (trees : TreesAreOne) (order : PathsAreOrdered) (held : RowsAreHeld) where
  pub trees_are_changed : TextsSpellTheirCommands → BytesAreChangedTogether → TreesAreChanged
  trees_are_changed theirs together changing range keep g o before mounts answers none =
      let (asked, is, changes) = done (Tree changing keep) g o answers none in
      let d : Disk = image_of g.size g.image in
      let t : Path → Option Node = tree is.mounts.volume in
      let there : Mounts d t = here d is.mounted is.mounts in
      let says = says_commands texts one order held d is.mounted asked changes.denotes.0 is.mounts
      (takes_one asked keep g o changes) changing range is.asks in
      let carried = together asked keep g.size g.image g.journal o is.mounts.volume t changes is.mounts.holds there in
      let are : carried.commands ≡ says.commands =
      theirs says.commands carried.commands says.named (subst (λ (l : List Asked). AllZip Spells l carried.commands) says.are carried.spell) in
      let same : (p : Path) → equations_together carried.commands t p ≡ said changing range says.path before p =
      λ p. ap (λ (cs : List Command). equations_together cs t p) are ∙ same_equations says.commands t p ∙ says.make p
      ∙ same_said changing range says.path t before (trees d t before there mounts) p in
      record {
        path = says.path;
        spelled = says.spelled;
        mounts = mounts_as (image_of g.size o.image.items) (equations_together carried.commands t) (said changing range says.path before)
            carried.mounts same;
      }

  pub equal_trees_stay : EqualTreesStay
  equal_trees_stay changing range keep g o before path mounts answers none spelled other same =
      let (asked, is, changes) = done (Tree changing keep) g o answers none in
      let d : Disk = image_of g.size g.image in
      let t : Path → Option Node = tree is.mounts.volume in
      let alike : (p : Path) → t p ≡ before p = trees d t before (here d is.mounted is.mounts) mounts in
      let stays : (p : Path) → said changing range path t p ≡ t p =
      λ p. same_said changing range path t before alike p ∙ same p ∙ sym (alike p) in
      nothing_done asked keep g o changes
      (no_commands texts one order held d is.mounted asked changes.denotes.0 is.mounts
      (takes_one asked keep g o changes) changing range path is.asks other spelled stays)
