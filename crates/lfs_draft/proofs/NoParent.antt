-- Where a walk is refused, the name behind it belongs nowhere.
use Rattle.std.proofs.Common.{◌≡◌, List, [], ◌∷◌, ◌++◌, Option, Some, None, refl, ap, ◌∙◌}
use Rattle.std.specs.Option.{option_and_then, option_map}
use Rattle.std.proofs.lemmas.Option.{none-some}
use Rattle.lfs_meta.specs.Name.{Name}
use Rattle.lfs_meta.specs.Body.{Pair}
use Rattle.lfs_fs.specs.Directory.{Directory}
use Rattle.lfs_fs.specs.Entry.{Entry, target}
use Rattle.lfs_fs.specs.Pair.{root}
use Rattle.lfs_fs.specs.Path.{Path}
use Rattle.lfs_fs.specs.Tree.{entry_in}
use Rattle.lfs_fs.specs.Volume.{Volume}
use Rattle.lfs_command.specs.declared.refusal.Refusal.{Refusal}
use Rattle.lfs_command.specs.Parent.{parent_of}
use Rattle.lfs_law.specs.PairWalk.{directory_name, pair_at}
use Rattle.lfs_law.specs.WalkRefusal.{goes_on, refuses_at, walk_all}
use Rattle.lfs_law.proofs.ParentSteps.{split_behind}
use Rattle.lfs_law.proofs.PairWalks.{walks_go_by_pairs}

-- a walk that is refused leads to no directory, from any directory
abbrev LeadsNowhere : List Directory → Path → Refusal → Type 0
LeadsNowhere ds ns r = (k : Pair) → walk_all ds k ns ≡ Some r → pair_at ds k ns ≡ None

no_target : (ds : List Directory) (ns : Path) (r : Refusal) (o : Option Pair) → LeadsNowhere ds ns r
    → goes_on (λ j. walk_all ds j ns) o ≡ Some r → option_and_then (λ j. pair_at ds j ns) o ≡ None
no_target ds ns r None nowhere refuses = refl
no_target ds ns r (Some j) nowhere refuses = nowhere j refuses

no_entry : (ds : List Directory) (ns : Path) (r : Refusal) (o : Option Entry) → LeadsNowhere ds ns r
    → refuses_at (λ j. walk_all ds j ns) o ≡ Some r → option_and_then (λ j. pair_at ds j ns) (option_and_then target o) ≡ None
no_entry ds ns r None nowhere refuses = refl
no_entry ds ns r (Some e) nowhere refuses = no_target ds ns r (target e) nowhere refuses

no_pair : (ds : List Directory) (ns : Path) (r : Refusal) → LeadsNowhere ds ns r
no_pair ds [] r k refuses = absurd (none-some r refuses)
no_pair ds (n ∷ ns) r k refuses = no_entry ds ns r (entry_in ds k n) (no_pair ds ns r) refuses

pub no_parent : (v : Volume) (path front : Path) (n : Name) (r : Refusal) → path ≡ front ++ n ∷ []
    → walk_all v.directories root front ≡ Some r → parent_of v path ≡ None
no_parent v path front n r is refuses =
    ap (parent_of v) is ∙ (walks_go_by_pairs v).parent (front ++ n ∷ [])
    ∙ ap (option_and_then (directory_name v.directories)) (split_behind front n)
    ∙ ap (option_map (λ (j : Pair). (j, n))) (no_pair v.directories front r root refuses)
