-- What the entry under the name leads to, where the directory is found from its place on.
use Rattle.std.proofs.Common.{◌≡◌, ◌-◌, ℕ, List, length, take, drop, ap, subst, sym, ◌∙◌}
use Rattle.std.specs.Prelude.{find}
use Rattle.std.specs.Option.{option_and_then}
use Rattle.std.proofs.lemmas.List.Elements.{All-drop}
use Rattle.lfs_meta.specs.Body.{Pair}
use Rattle.lfs_meta.specs.Name.{Name}
use Rattle.lfs_fs.specs.Directory.{Directory, begins_at, entries}
use Rattle.lfs_fs.specs.Entry.{is_named, target}
use Rattle.lfs_fs.specs.Sound.{Rise}
use Rattle.lfs_fs.specs.Tree.{entry_in}
use Rattle.lfs_law.specs.WalkRefusal.{goes_on, refuses_at}
use Rattle.lfs_draft.specs.Editable.{NamesRise}
use Rattle.lfs_draft.proofs.PlacesFrom.{to_the_end}
use Rattle.lfs_draft.proofs.walking.step.Goals as goal

entry_from : (ds : List Directory) (k : Pair) (m : Name) (n : ℕ) → find (begins_at k) (drop n ds) ≡ find (begins_at k) ds
    → entry_in ds k m ≡ entry_in (take (length ds - n) (drop n ds)) k m
entry_from ds k m n found =
    ap (option_and_then (λ (d : Directory). find (is_named m) (entries d))) (sym found)
    ∙ ap (λ (l : List Directory). entry_in l k m) (sym (to_the_end n ds))

pub entry_in-requires : goal.entry_in-requires
entry_in-requires c =
    subst NamesRise (sym (to_the_end c.place_from-from.result c.args.directories.now))
    (All-drop (λ (d : Directory). Rise (entries d)) c.place_from-from.result c.args.directories.now c.requires.rise)

pub returns-in_default-clause-refused : goal.returns-in_default-clause-refused
returns-in_default-clause-refused c = λ rest.
    ap (refuses_at rest) (entry_from c.args.directories.now c.args.here.pair c.args.name.now c.place_from-from.result
    c.place_from-from.ensures.found ∙ sym c.in_default.ensures)

pub returns-in_default-target-clause-refused : goal.returns-in_default-target-clause-refused
returns-in_default-target-clause-refused c = λ rest.
    ap (refuses_at rest) (entry_from c.args.directories.now c.args.here.pair c.args.name.now c.place_from-from.result
    c.place_from-from.ensures.found ∙ sym c.in-Some.ensures)
    ∙ ap (goes_on rest) (sym c.in_default-target.ensures)

pub returns-clause-there : goal.returns-clause-there
returns-clause-there c =
    ap (option_and_then target) (entry_from c.args.directories.now c.args.here.pair c.args.name.now c.place_from-from.result
    c.place_from-from.ensures.found ∙ sym c.in-Some.ensures)
    ∙ sym c.in-Some-target.ensures
