-- The first part set: all stays.
use Rattle.std.proofs.Common.{◌≡◌, List, [], ◌∷◌, refl}
use Rattle.std.specs.Prelude.{All}
use Rattle.std.proofs.lemmas.List.Elements.{All-cons, All-head, All-tail}
use Rattle.lfs_meta.specs.Name.{Name}
use Rattle.lfs_meta.specs.Body.{Pair}
use Rattle.lfs_fs.specs.declared.limits.Limits.{Limits}
use Rattle.lfs_fs.specs.Directory.{Directory, entries}
use Rattle.lfs_fs.specs.Tree.{entry_in}
use Rattle.lfs_fs.specs.Sound.{Rise, IsProper}
use Rattle.lfs_command.specs.ThreadEdit.{touch_first}
use Rattle.lfs_law.proofs.Effect.{none, Effect, AreGood}
use Rattle.lfs_law.proofs.InDirectory.{same_first_entries}

pub touch_first_edges : (ds : List Directory) (j : Pair) (m : Name) → entry_in (touch_first ds) j m ≡ entry_in ds j m
touch_first_edges [] j m = refl
touch_first_edges (d ∷ ds) j m = same_first_entries j m d _ ds ds refl refl refl

pub touch_first_effect : (ds : List Directory) → Effect none none ds (touch_first ds)
touch_first_effect [] = record { uses = λ b. refl; names = λ k. refl; directories = λ k. refl; starts = λ h. h; delta = refl }
touch_first_effect (d ∷ ds) = record { uses = λ b. refl; names = λ k. refl; directories = λ k. refl; starts = λ h. h; delta = refl }

pub touch_first_good : (limits : Limits) (ds : List Directory) → AreGood limits ds → AreGood limits (touch_first ds)
touch_first_good limits [] good = good
touch_first_good limits (d ∷ ds) good =
    let rises : Directory → Type 0 = λ (x : Directory). Rise (entries x) in
    let fits : Directory → Type 0 = λ (x : Directory). All (IsProper limits) (entries x) in
    record {
      order = All-cons rises _ ds (All-head rises d ds good.order) (All-tail rises d ds good.order);
      proper = All-cons fits _ ds (All-head fits d ds good.proper) (All-tail fits d ds good.proper);
    }
