-- The first of the names decides.
use Rattle.std.proofs.Common.{◌≡◌, ◌++◌, ◌∷◌, Bool, true, List, ap, sym, ◌∙◌, subst}
use Rattle.std.specs.Prelude.{All, MatchBool}
use Rattle.lfs_meta.specs.Name.{Name}
use Rattle.lfs_fs.specs.Entry.{Entry}
use Rattle.lfs_fs.specs.Gathering.{EndsAtOrAfter, part_entries}
use Rattle.lfs_fs.specs.NameOrder.{precedes}
use Rattle.lfs_fs.specs.Sound.{Rise}
use Rattle.lfs_fs.proofs.GatheringLemmas.{rise_both}
use Rattle.lfs_fs.proofs.following.come_last.Goals as goal

pub returns-in-Some : goal.returns-in-Some
returns-in-Some c so =
    let before = part_entries c.args.parts.now in
    let first = c.in-Some.first.now in
    let rest = c.in-Some.field-0-1.now in
    let is : c.args.entries.now ≡ first ∷ rest = c.in-Some.ensures.cases.0 in
    let name : c.deref.result.now ≡ first.name = c.deref.ensures.value ∙ ap (λ (e : Entry). e.name) c.first.view_is in
    let at : All (λ (e : Entry). precedes e.name c.deref.result.now ≡ true) before =
    subst (λ (b : Bool). MatchBool b (All (λ e. precedes e.name c.deref.result.now ≡ true) before) (EndsAtOrAfter before c.deref.result.now))
    so c.comes_behind.ensures in
    subst (λ (es : List Entry). Rise (before ++ es)) (sym is) (rise_both before first rest c.requires.parts
    (subst Rise is c.requires.entries) (subst (λ (n : Name). All (λ (e : Entry). precedes e.name n ≡ true) before) name at))
