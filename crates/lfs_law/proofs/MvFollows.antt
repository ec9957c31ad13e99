-- What is moved follows its equation.
use Rattle.std.proofs.Common.{◌≡◌, ℕ, ◌+◌, ◌≤◌, nat_lt, false, List, [], ◌∷◌, ◌++◌, refl, ap, sym, ◌∙◌, subst, arith, length, append-nil, Option}
use Rattle.std.proofs.Common.{Some, None}
use Rattle.std.specs.Prelude.{sum_by, count_by}
use Rattle.std.specs.Option.{option_map, unwrap_or}
use Rattle.std.proofs.lemmas.Bool.Decides.{nat_tests}
use Rattle.std.proofs.lemmas.Option.{none-some}
use Rattle.lfs_meta.specs.Name.{Name}
use Rattle.lfs_meta.specs.Body.{Pair}
use Rattle.lfs_fs.specs.NameOrder.{NamesAreOrdered}
use Rattle.lfs_fs.specs.Path.{Path}
use Rattle.lfs_fs.specs.Entry.{Entry}
use Rattle.lfs_fs.specs.Directory.{Directory, begins_at}
use Rattle.lfs_fs.specs.Volume.{Volume}
use Rattle.lfs_fs.specs.Tree.{entry_at, entry_in, tree}
use Rattle.lfs_fs.specs.Uses.{pair_uses, uses}
use Rattle.lfs_fs.specs.Sound.{IsSound, IsProper}
use Rattle.lfs_command.specs.PathMap.{below, moved}
use Rattle.lfs_command.specs.ThreadEdit.{link, unlink}
use Rattle.lfs_command.specs.Parent.{parent_of}
use Rattle.lfs_command.specs.Edited.{with_directories, renamed, move_entry}
use Rattle.lfs_command.specs.Verdict.{lies_below}
use Rattle.lfs_command.specs.Freed.{emptied_among, emptied_parts, emptied_uses}
use Rattle.lfs_law.proofs.Effect.{Counts, Effect, AreGood, none, of_entry, with_parts, of_both, in_a_row}
use Rattle.lfs_law.proofs.MovedEdge.{MovedEdge, tree_moved, reached_moved}
use Rattle.lfs_law.proofs.PathMapLemmas.{below_some}
use Rattle.lfs_law.proofs.SoundAfter.{sound_after}
use Rattle.lfs_law.proofs.ThreadEdits.{link_edge, link_other, link_effect, link_good, unlink_edge, unlink_other, unlink_effect, unlink_good}
use Rattle.lfs_law.proofs.EdgeEdits.{SameFrame, sound_is_good}
use Rattle.lfs_law.proofs.Placed.{IsPlaced, proper_entry}

-- a sound volume in the same frame, with the same uses of blocks less those of parts that leave, whose tree is moved
pub record Moves (v w : Volume) (p q : Path) : Type 0 where
  pub sound : IsSound w
  pub frame : SameFrame v w
  pub uses : (b : ℕ) → uses b w + emptied_uses v p b ≡ uses b v
  pub at : (path : Path) → tree w path ≡ moved p q (tree v) path

-- A path at which nothing is doesn't lie at or below one at which something is, unless strictly below.
outside_by : (v : Volume) (p q : Path) (e : Entry) → entry_at v p ≡ Some e → entry_at v q ≡ None → (o : Option Path) → below p q ≡ o
    → unwrap_or (option_map (λ (r : Path). nat_lt 0 (length r)) o) false ≡ false → o ≡ None
outside_by v p q e here free None is apart = refl
outside_by v p q e here free (Some []) is apart =
    let same : q ≡ p = below_some p q [] is ∙ append-nil p in
    absurd (none-some e (sym free ∙ ap (entry_at v) same ∙ here))
outside_by v p q e here free (Some (n ∷ r)) is apart = let no : ⊥ = grind (arith, nat_tests) in absurd no

outside : (v : Volume) (p q : Path) (e : Entry) → entry_at v p ≡ Some e → entry_at v q ≡ None → lies_below p q ≡ false → below p q ≡ None
outside v p q e here free apart = outside_by v p q e here free (below p q) refl apart

-- where one edge is and the other isn't, they are two
apart : (ds : List Directory) (k j : Pair) (n m : Name) (e : Entry) → entry_in ds k n ≡ Some e → entry_in ds j m ≡ None → (k ≡ j) × (n ≡ m)
    → ⊥
apart ds k j n m e one none both = none-some e (sym none ∙ ap (λ (x : Pair). entry_in ds x m) (sym both.0) ∙ ap (entry_in ds k) (sym both.1)
    ∙ one)

pub mv_follows : (v : Volume) (p q : Path) (e : Entry) → NamesAreOrdered → IsSound v → (from : IsPlaced v p) → (to : IsPlaced v q)
    → entry_at v p ≡ Some e
    → entry_at v q ≡ None → lies_below p q ≡ false → length to.parent.name ≤ v.limits.name
    → Moves v (move_entry v (parent_of v p) (parent_of v q) (Some e)) p q
mv_follows v p q e ordered sound from to here free off fits =
    let k = from.parent.pair in
    let n = from.parent.name in
    let j = to.parent.pair in
    let m = to.parent.name in
    let x : Entry = renamed m e in
    let edge : entry_in v.directories k n ≡ Some e = sym from.edge ∙ here in
    let no_edge : entry_in v.directories j m ≡ None = sym to.edge ∙ free in
    let two = apart v.directories k j n m e edge no_edge in
    let good : AreGood v.limits v.directories = sound_is_good v sound in
    let unlinked : List Directory = unlink k n v.directories in
    let gone : Counts = with_parts e (emptied_among v.directories k n) in
    let first : Effect gone none v.directories unlinked = unlink_effect v.limits k n e v.directories ordered good from.once edge in
    let once : count_by (begins_at j) unlinked ≡ 1 = omega (arith, first.directories j, to.once) in
    let fresh : entry_in unlinked j m ≡ None = unlink_other k n v.directories j m (λ both. two (sym both.0, sym both.1)) ∙ no_edge in
    let was : IsProper v.limits e = proper_entry v sound k n e edge in
    let proper : IsProper v.limits x = record {
      name = to.parent.named;
      name_fits = fits;
      file_fits = was.file_fits;
      attributes = was.attributes;
    } in
    let ds : List Directory = link j x unlinked in
    let w : Volume = with_directories v ds in
    let second : Effect none (of_entry x) unlinked ds = link_effect j x unlinked once in
    let moves : MovedEdge v w from.parent.front to.parent.front k j n m e x = record {
      sound = sound;
      holder = from.parent.above;
      holder_at = from.parent.at;
      holder_leads = from.parent.leads;
      taker = to.parent.above;
      taker_at = to.parent.at;
      taker_leads = to.parent.leads;
      from = ap (entry_at v) (sym from.parent.complete) ∙ here;
      to = ap (entry_at v) (sym to.parent.complete) ∙ free;
      outside = ap (λ (y : Path). below y (to.parent.front ++ m ∷ [])) (sym from.parent.complete) ∙ ap (below p) (sym to.parent.complete)
          ∙ outside v p q e here free off;
      attributes = refl;
      gone = link_other j x unlinked k n two ∙ unlink_edge k n v.directories;
      came = link_edge j x unlinked once fresh;
      leads = refl;
      shows = refl;
      others = λ i l not_from not_to. link_other j x unlinked i l not_to ∙ unlink_other k n v.directories i l not_from;
    } in
    let follows : Moves v w p q = record {
      sound = sound_after v w (of_both gone none) (of_both none (of_entry x)) sound
          (in_a_row gone none none (of_entry x) v.directories unlinked ds first second)
          (link_good v.limits j x unlinked ordered (unlink_good v.limits k n v.directories good) once fresh proper)
          sound.root_attributes refl
          (record {
            once = λ b. omega (arith, sound.once b);
            within = λ b less. let no : ⊥ = omega arith in absurd no;
            names = λ i. omega arith;
            stay = λ i away reached. reached_moved moves i reached;
            come = λ i some. let no : ⊥ = omega arith in absurd no;
          });
      frame = record { size = refl; count = refl; limits = refl };
      uses = λ b. omega (
        arith,
        first.uses b,
        second.uses b,
        ap (λ (h : Option (Pair × Name)). sum_by (pair_uses b) (emptied_parts v h)) from.parent.parent,
      );
      at = λ path.
          tree_moved moves path
          ∙ ap (λ (y : Path). moved y (to.parent.front ++ m ∷ []) (tree v) path) (sym from.parent.complete)
          ∙ ap (λ (y : Path). moved p y (tree v) path) (sym to.parent.complete);
    } in
    subst (λ (h : Option (Pair × Name)). Moves v (move_entry v h (parent_of v q) (Some e)) p q) (sym from.parent.parent)
    (subst (λ (h : Option (Pair × Name)). Moves v (move_entry v (Some (k, n)) h (Some e)) p q) (sym to.parent.parent) follows)
