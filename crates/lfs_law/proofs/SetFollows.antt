-- A change of attributes follows its equation.
use Rattle.std.proofs.Common.{◌≡◌, [], ◌∷◌, ◌++◌, refl, ap, sym, ◌∙◌, subst, arith, Option, Some, None}
use Rattle.std.specs.Option.{option_map, option_and_then}
use Rattle.lfs_meta.specs.Name.{Name}
use Rattle.lfs_meta.specs.Attribute.{Attributes}
use Rattle.lfs_meta.specs.Body.{Pair}
use Rattle.lfs_fs.specs.NameOrder.{NamesAreOrdered}
use Rattle.lfs_fs.specs.Path.{Path}
use Rattle.lfs_fs.specs.Entry.{Body, Inline, Chain, Directory_at, Entry, target}
use Rattle.lfs_fs.specs.Volume.{Volume}
use Rattle.lfs_fs.specs.Tree.{Node, entry_at, entry_in, node, node_of, tree}
use Rattle.lfs_fs.specs.Sound.{IsSound, IsProper, AreAttributes}
use Rattle.lfs_command.specs.PathMap.{put_at_path}
use Rattle.lfs_command.specs.Equation.{with_attributes}
use Rattle.lfs_command.specs.ThreadEdit.{change}
use Rattle.lfs_command.specs.Edited.{with_directories, with_entry_attributes, set_attributes}
use Rattle.lfs_law.proofs.Effect.{AreGood, none, of_entry}
use Rattle.lfs_law.proofs.OneEdge.{OneEdge, alike_from_targets, tree_after}
use Rattle.lfs_law.proofs.SameEdges.{tree_with_root, reached_with_root}
use Rattle.lfs_law.proofs.ThreadEdits.{change_edge, change_other, change_effect, change_good}
use Rattle.lfs_law.proofs.TouchFirst.{touch_first_edges, touch_first_effect, touch_first_good}
use Rattle.lfs_law.proofs.SoundAfter.{sound_after}
use Rattle.lfs_law.proofs.EdgeEdits.{sound_is_good, Puts, edge_sound}
use Rattle.lfs_law.proofs.Placed.{IsPlaced, proper_entry}
use Rattle.lfs_command.specs.Parent.{parent_of}

-- what a change of attributes keeps
abbrev pub KeepsGood : (Attributes → Attributes) → Volume → Type 0
KeepsGood f v = (a : Attributes) → AreAttributes v.limits.attribute a → AreAttributes v.limits.attribute (f a)

-- ---- the root's attributes

pub root_set_follows : (v : Volume) (f : Attributes → Attributes) → IsSound v → KeepsGood f v
    → Puts v (set_attributes v f None) [] (option_map (with_attributes f) (tree v [])) (λ b. 0) (λ b. 0)
root_set_follows v f sound keeps = record {
  sound = sound_after v (set_attributes v f None) none none sound (touch_first_effect v.directories)
      (touch_first_good v.limits v.directories (sound_is_good v sound)) (keeps v.attributes sound.root_attributes) refl
      (record {
        once = λ b. omega (arith, sound.once b);
        within = λ b less. let no : ⊥ = omega arith in absurd no;
        names = λ k. refl;
        stay = λ k gone reached. reached_with_root v (set_attributes v f None) (touch_first_edges v.directories) k reached;
        come = λ k some. let no : ⊥ = omega arith in absurd no;
      });
  frame = record { size = refl; count = refl; limits = refl };
  uses = λ b. omega (arith, (touch_first_effect v.directories).uses b);
  at = λ q. tree_with_root v (set_attributes v f None) (touch_first_edges v.directories) q;
}

-- ---- an entry's attributes

shows_set : (f : Attributes → Attributes) (b : Body) (a : Attributes) → node_of b (f a) ≡ with_attributes f (node_of b a)
shows_set f (Inline bytes) a = refl
shows_set f (Chain blocks bytes) a = refl
shows_set f (Directory_at pair) a = refl

set_proper : (v : Volume) (f : Attributes → Attributes) (e : Entry) → KeepsGood f v → IsProper v.limits e
    → IsProper v.limits (with_entry_attributes f e)
set_proper v f e keeps proper = record {
  name = proper.name;
  name_fits = proper.name_fits;
  file_fits = proper.file_fits;
  attributes = keeps e.attributes proper.attributes;
}

entry_edge : (v : Volume) (f : Attributes → Attributes) (p : Path) (e : Entry) → IsSound v → (at : IsPlaced v p) → entry_at v p ≡ Some e
    → OneEdge v (with_directories v (change at.parent.pair at.parent.name (with_entry_attributes f) v.directories)) at.parent.front at.parent.pair
    at.parent.name (Some (with_entry_attributes f e))
entry_edge v f p e sound at here = record {
  sound = sound;
  holder = at.parent.above;
  holder_at = at.parent.at;
  holder_leads = at.parent.leads;
  attributes = refl;
  edge = change_edge at.parent.pair at.parent.name (with_entry_attributes f) v.directories e (λ x. refl) (sym at.edge ∙ here);
  others = change_other at.parent.pair at.parent.name (with_entry_attributes f) v.directories (λ x. refl);
}

pub entry_set_follows : (v : Volume) (f : Attributes → Attributes) (p : Path) (e : Entry) → NamesAreOrdered → IsSound v → KeepsGood f v
    → (at : IsPlaced v p) → entry_at v p ≡ Some e
    → Puts v (set_attributes v f (parent_of v p)) p (option_map (with_attributes f) (tree v p)) (λ b. 0) (λ b. 0)
entry_set_follows v f p e ordered sound keeps at here =
    let k = at.parent.pair in
    let n = at.parent.name in
    let edge : entry_in v.directories k n ≡ Some e = sym at.edge ∙ here in
    let good : AreGood v.limits v.directories = sound_is_good v sound in
    let one = entry_edge v f p e sound at here in
    let effect = change_effect v.limits k n (with_entry_attributes f) e v.directories ordered good at.once edge in
    let old : entry_at v (at.parent.front ++ n ∷ []) ≡ Some e = ap (entry_at v) (sym at.parent.complete) ∙ here in
    let alike = alike_from_targets one (ap (option_and_then target) (sym old)) in
    let follows : Puts v (with_directories v (change k n (with_entry_attributes f) v.directories)) p
    (option_map (with_attributes f) (tree v p)) (λ b. 0) (λ b. 0) = record {
      sound = edge_sound v (change k n (with_entry_attributes f) v.directories) at.parent.front k n (Some (with_entry_attributes f e))
          (of_entry e) (of_entry (with_entry_attributes f e)) one alike
          effect
          (change_good v.limits k n (with_entry_attributes f) e v.directories ordered (λ x. refl) good at.once edge
          (set_proper v f e keeps (proper_entry v sound k n e edge)))
          (record {
            once = λ b. omega (arith, sound.once b);
            within = λ b less. let no : ⊥ = omega arith in absurd no;
            names = λ j. refl;
            keeps = λ j gone leads. ap (option_and_then target) (sym old) ∙ leads;
            comes = λ j some. let no : ⊥ = omega arith in absurd no;
          });
      frame = record { size = refl; count = refl; limits = refl };
      uses = λ b. omega (arith, effect.uses b);
      at = λ q.
          tree_after one alike q
          ∙ ap (λ (x : Path). put_at_path x (Some (node (with_entry_attributes f e))) (tree v) q) (sym at.parent.complete)
          ∙ ap (λ (x : Option Node). put_at_path p x (tree v) q) (ap Some (shows_set f e.body e.attributes)
          ∙ ap (λ (x : Option Entry). option_map (with_attributes f) (option_map node x)) (sym here));
    } in
    subst (λ (h : Option (Pair × Name)). Puts v (set_attributes v f h) p (option_map (with_attributes f) (tree v p)) (λ b. 0) (λ b. 0))
    (sym at.parent.parent) follows
