-- No directory is noted at first, and then each of the outline's.
use Rattle.std.proofs.Common.{◌≡◌, ◌∙◌, List, None, Option, ap, arith, length, replicate, subst, sym, ℕ}
use Rattle.std.proofs.lemmas.List.{length-replicate, with_items_is}
use Rattle.std.proofs.lemmas.List.Elements.{All-replicate}
use Rattle.std.specs.List.{All}
use Rattle.lfs_fs.specs.Directory.{Directory}
use Rattle.lfs_fs.specs.Volume.{Volume}
use Rattle.lfs_listing.specs.DirectoryNumbers.{AreNumbers, FindDirectories}
use Rattle.lfs_listing.proofs.DirectoryLemmas.{find_directories}
use Rattle.lfs_listing.proofs.directory_numbers.numbers_of.Goals as goal

-- none of them is a number
abbrev AreNone : List (Option ℕ) → Type 0
AreNone numbers = All (λ o. o ≡ None) numbers

pub note_each-requires : goal.note_each-requires
note_each-requires c =
    subst AreNone (sym (c.deref_mut.ensures.value ∙ c.in_ok-numbers.ensures))
    (All-replicate (λ (o : Option ℕ). o ≡ None) c.outline.inside.count None (λ i. None))

pub returns : goal.returns
returns c =
    let v : Volume = c.args.outline.now in
    let new : List (Option ℕ) = c.note_each.new.numbers in
    let len : length new ≡ c.in_ok-numbers.numbers.len = omega (arith, c.note_each.auto.numbers, c.deref_mut.ensures.len) in
    let numbers : AreNumbers v.directories new =
    subst (λ (w : Volume). AreNumbers w.directories new) c.outline.view_is
    (subst (λ (ds : List Directory). AreNumbers ds new) c.deref.ensures.value c.note_each.ensures) in
    let none : List (Option ℕ) = replicate v.count None in
    let size : length none ≡ v.count = length-replicate v.count None in
    let old : c.deref_mut.result.now ≡ none =
    c.deref_mut.ensures.value ∙ c.in_ok-numbers.ensures ∙ ap (λ (w : Volume). replicate w.count None) c.outline.view_is in
    let long : length new ≡ v.count = omega (arith, c.note_each.auto.numbers, ap length old, size) in
    subst (FindDirectories v.directories) (sym (with_items_is c.in_ok-numbers.numbers new len))
    (find_directories v c.requires new numbers long)
