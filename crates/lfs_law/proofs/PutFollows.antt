-- A file put follows its equation.
use Rattle.std.proofs.Common.{◌≡◌, ℕ, ◌+◌, ◌<◌, ◌≤◌, List, [], ◌∷◌, ◌++◌, refl, ap, sym, ◌∙◌, subst, arith, length, Option, Some, None}
use Rattle.std.specs.Option.{option_and_then}
use Rattle.std.proofs.lemmas.Option.{none-some}
use Rattle.lfs_meta.specs.Name.{Name, IsName}
use Rattle.lfs_meta.specs.Body.{Pair}
use Rattle.lfs_fs.specs.NameOrder.{NamesAreOrdered}
use Rattle.lfs_fs.specs.Path.{Path}
use Rattle.lfs_fs.specs.Entry.{Body, Entry, body_target, body_length, target}
use Rattle.lfs_fs.specs.Volume.{Volume}
use Rattle.lfs_fs.specs.Tree.{Node, File, entry_at, entry_in, node, node_of, tree}
use Rattle.lfs_fs.specs.Uses.{body_uses, entry_uses, uses}
use Rattle.lfs_fs.specs.Named.{leads_to}
use Rattle.lfs_fs.specs.Sound.{IsSound, IsProper}
use Rattle.lfs_command.specs.PathMap.{put_at_path}
use Rattle.lfs_command.specs.ThreadEdit.{link, change}
use Rattle.lfs_command.specs.Parent.{parent_of}
use Rattle.lfs_command.specs.Edited.{with_directories, with_body, new_entry, put_file}
use Rattle.lfs_law.proofs.Effect.{AreGood, none, of_entry}
use Rattle.lfs_law.proofs.OneEdge.{OneEdge, alike_from_targets, tree_after}
use Rattle.lfs_law.proofs.ThreadEdits.{link_edge, link_other, link_effect, link_good, change_edge, change_other, change_effect, change_good}
use Rattle.lfs_law.proofs.EdgeEdits.{sound_is_good, Puts, edge_sound}
use Rattle.lfs_law.proofs.Placed.{IsPlaced, proper_entry}

-- A body that holds these bytes in blocks that are free.
pub record IsNewBody (v : Volume) (body : Body) (bytes : List ℕ) : Type 0 where
  pub leads : body_target body ≡ None
  pub shows : (a : List (ℕ × List ℕ)) → node_of body a ≡ File bytes a
  pub len : body_length body ≤ v.limits.file
  pub once : (b : ℕ) → uses b v + body_uses b body ≤ 1
  pub within : (b : ℕ) → 0 < body_uses b body → b < v.count

-- ---- a new file

new_proper : (v : Volume) (n : Name) (body : Body) (bytes : List ℕ) → IsName n → length n ≤ v.limits.name → IsNewBody v body bytes
    → IsProper v.limits (new_entry n body)
new_proper v n body bytes name fits new = record { name = name; name_fits = fits; file_fits = new.len; attributes = tt }

pub new_file_follows : (v : Volume) (p : Path) (body : Body) (bytes : List ℕ) → NamesAreOrdered → IsSound v → (at : IsPlaced v p)
    → entry_at v p ≡ None
    → length at.parent.name ≤ v.limits.name → IsNewBody v body bytes
    → Puts v (put_file v body (parent_of v p) None) p (Some (File bytes [])) (λ b. 0) (λ b. body_uses b body)
new_file_follows v p body bytes ordered sound at fresh fits new =
    let k = at.parent.pair in
    let n = at.parent.name in
    let e : Entry = new_entry n body in
    let edge : entry_in v.directories k n ≡ None = sym at.edge ∙ fresh in
    let old : entry_at v (at.parent.front ++ n ∷ []) ≡ None = ap (entry_at v) (sym at.parent.complete) ∙ fresh in
    let good : AreGood v.limits v.directories = sound_is_good v sound in
    let ds = link k e v.directories in
    let one : OneEdge v (with_directories v ds) at.parent.front k n (Some e) = record {
      sound = sound;
      holder = at.parent.above;
      holder_at = at.parent.at;
      holder_leads = at.parent.leads;
      attributes = refl;
      edge = link_edge k e v.directories at.once edge;
      others = link_other k e v.directories;
    } in
    let alike = alike_from_targets one (new.leads ∙ ap (option_and_then target) (sym old)) in
    let effect = link_effect k e v.directories at.once in
    let follows : Puts v (with_directories v ds) p (Some (File bytes [])) (λ b. 0) (λ b. body_uses b body) = record {
      sound = edge_sound v ds at.parent.front k n (Some e) none (of_entry e) one alike
          effect
          (link_good v.limits k e v.directories ordered good at.once edge (new_proper v n body bytes at.parent.named fits new))
          (record {
            once = new.once;
            within = new.within;
            names = λ j. omega (arith, ap (leads_to j) new.leads);
            keeps = λ j gone leads. absurd (none-some j (sym (ap (option_and_then target) old) ∙ leads));
            comes = λ j some. let no : ⊥ = omega arith in absurd no;
          });
      frame = record { size = refl; count = refl; limits = refl };
      uses = effect.uses;
      at = λ q.
          tree_after one alike q
          ∙ ap (λ (x : Path). put_at_path x (Some (node e)) (tree v) q) (sym at.parent.complete)
          ∙ ap (λ (x : Node). put_at_path p (Some x) (tree v) q) (new.shows []);
    } in
    subst (λ (h : Option (Pair × Name)). Puts v (put_file v body h None) p (Some (File bytes [])) (λ b. 0) (λ b. body_uses b body))
    (sym at.parent.parent) follows

-- ---- a file that was there

put_proper : (v : Volume) (body : Body) (bytes : List ℕ) (e : Entry) → IsNewBody v body bytes → IsProper v.limits e
    → IsProper v.limits (with_body body e)
put_proper v body bytes e new proper = record {
  name = proper.name;
  name_fits = proper.name_fits;
  file_fits = new.len;
  attributes = proper.attributes;
}

pub old_file_follows : (v : Volume) (p : Path) (body : Body) (bytes : List ℕ) (e : Entry) → NamesAreOrdered → IsSound v
    → (at : IsPlaced v p) → entry_at v p ≡ Some e
    → target e ≡ None → IsNewBody v body bytes
    → Puts v (put_file v body (parent_of v p) (Some e)) p (Some (File bytes e.attributes)) (λ b. entry_uses b e) (λ b. body_uses b body)
old_file_follows v p body bytes e ordered sound at here file new =
    let k = at.parent.pair in
    let n = at.parent.name in
    let f : Entry → Entry = with_body body in
    let edge : entry_in v.directories k n ≡ Some e = sym at.edge ∙ here in
    let old : entry_at v (at.parent.front ++ n ∷ []) ≡ Some e = ap (entry_at v) (sym at.parent.complete) ∙ here in
    let good : AreGood v.limits v.directories = sound_is_good v sound in
    let ds = change k n f v.directories in
    let one : OneEdge v (with_directories v ds) at.parent.front k n (Some (f e)) = record {
      sound = sound;
      holder = at.parent.above;
      holder_at = at.parent.at;
      holder_leads = at.parent.leads;
      attributes = refl;
      edge = change_edge k n f v.directories e (λ x. refl) edge;
      others = change_other k n f v.directories (λ x. refl);
    } in
    let led_nowhere : option_and_then target (entry_at v (at.parent.front ++ n ∷ [])) ≡ None = ap (option_and_then target) old ∙ file in
    let alike = alike_from_targets one (new.leads ∙ sym led_nowhere) in
    let effect = change_effect v.limits k n f e v.directories ordered good at.once edge in
    let follows : Puts v (with_directories v ds) p (Some (File bytes e.attributes)) (λ b. entry_uses b e) (λ b. body_uses b body) = record {
      sound = edge_sound v ds at.parent.front k n (Some (f e)) (of_entry e) (of_entry (f e)) one alike
          effect
          (change_good v.limits k n f e v.directories ordered (λ x. refl) good at.once edge
          (put_proper v body bytes e new (proper_entry v sound k n e edge)))
          (record {
            once = λ b. omega (arith, new.once b);
            within = λ b less. new.within b (omega (arith, less));
            names = λ j. omega (arith, ap (leads_to j) new.leads, ap (leads_to j) file);
            keeps = λ j gone leads. absurd (none-some j (sym led_nowhere ∙ leads));
            comes = λ j some. let no : ⊥ = omega arith in absurd no;
          });
      frame = record { size = refl; count = refl; limits = refl };
      uses = effect.uses;
      at = λ q.
          tree_after one alike q
          ∙ ap (λ (x : Path). put_at_path x (Some (node (f e))) (tree v) q) (sym at.parent.complete)
          ∙ ap (λ (x : Node). put_at_path p (Some x) (tree v) q) (new.shows e.attributes);
    } in
    subst (λ (h : Option (Pair × Name)). Puts v (put_file v body h (Some e)) p (Some (File bytes e.attributes)) (λ b. entry_uses b e)
    (λ b. body_uses b body)) (sym at.parent.parent) follows
