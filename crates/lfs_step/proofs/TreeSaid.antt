-- The commands of a change of a tree that is accepted make the tree that it says.
use Rattle.std.proofs.Common.{◌≡◌, ℕ, Bool, true, false, List, [], ◌∷◌, ◌++◌, Bor, Option, Some, None, All, refl, ap, sym, ◌∙◌, subst, inl, inr, map}
use Rattle.std.proofs.Common.{append-nil}
use Rattle.std.specs.Prelude.{if◌then◌else◌, is_none, is_some}
use Rattle.std.proofs.lemmas.List.Elements.{All-cons, All-nil}
use Rattle.std.proofs.lemmas.Option.{none-some}
use Rattle.lfs_block.specs.Disk.{Disk, IsDisk}
use Rattle.lfs_block.specs.Patch.{ChangeSet}
use Rattle.lfs_meta.specs.Name.{IsName, Name}
use Rattle.lfs_fs.specs.Holds.{Holds, VolumesAreOne}
use Rattle.lfs_fs.specs.Mounted.{IsMountOf, MountedValue}
use Rattle.lfs_fs.specs.Path.{IsNoPath, IsPathText, Path, TextsSpellOnePath, path_text}
use Rattle.lfs_fs.specs.Reading.{reading_of}
use Rattle.lfs_fs.specs.Row.{PathsAreOrdered}
use Rattle.lfs_fs.specs.Tree.{Dir, File, Node, tree}
use Rattle.lfs_fs.specs.Volume.{Volume}
use Rattle.lfs_command.specs.declared.refusal.Refusal.TheVariants.{Exists, IsRoot, NotFound}
use Rattle.lfs_command.specs.Command.{Asked, Command, HasNames, Mkdir, Put, Rm, on_paths, bounded}
use Rattle.lfs_command.specs.Equation.{attributes_at}
use Rattle.lfs_command.specs.PathMap.{below, same_path}
use Rattle.lfs_command.specs.Planned.{Plans}
use Rattle.lfs_command.specs.Verdict.{is_directory, is_root, refuse_if, verdict, walk_refusal}
use Rattle.lfs_law.proofs.Parents.{first_passes, test_passes}
use Rattle.lfs_law.proofs.PathMapLemmas.{below_self}
use Rattle.lfs_request.specs.declared.tree_change.TreeChange.TheVariants as change
use Rattle.lfs_sync.specs.Planned.{in_texts}
use Rattle.lfs_sync.specs.Shown.{AreHeld, Shown, held_of}
use Rattle.lfs_sync.specs.SyncLaws.{RowsAreHeld}
use Rattle.lfs_sync.specs.SyncRows.{SayFolder}
use Rattle.lfs_sync.specs.Synced.{equations_of, lacking, make_commands, put_commands, remove_by, remove_commands, sync_commands, synced_by}
use Rattle.lfs_sync.specs.Synced.{with_parents, with_parents_by, without_below}
use Rattle.lfs_sync.specs.declared.sync_row.SyncRow.{SyncRow}
use Rattle.lfs_sync.proofs.HeldLemmas.{trees_are_rooted}
use Rattle.lfs_sync.proofs.NamedLemmas.{held_named, make_named, put_named, remove_named, sync_named, wanted_named}
use Rattle.lfs_sync.proofs.ParentLemmas.{made_is_with_parents, none_lacks, put_is_with_file}
use Rattle.lfs_sync.proofs.RemovedLemmas.{removed_is_without, without_inside}
use Rattle.lfs_sync.proofs.RowLemmas.{rows_bare, rows_named, rows_right}
use Rattle.lfs_sync.proofs.SpelledLemmas.{AsksAt, none_spelled, one_command}
use Rattle.lfs_sync.proofs.SyncedLemmas.{equal_by_rows, synced_by_rows}
use Rattle.lfs_step.specs.TreeChanging.{ChangeAsksFor, Changing, IsAskedOf, IsChangeInRange}
use Rattle.lfs_step.specs.TreeLaws.{PutsFile, said, text_of}
use Rattle.lfs_step.proofs.Bounds.{bounded_named, same_equations}

-- ---- trees that are the same at each path

pub same_said : (changing : Changing) (range : IsChangeInRange changing) (path : Path) (t u : Path → Option Node) → ((p : Path) → t p ≡ u p)
    → (p : Path) → said changing range path t p ≡ said changing range path u p
same_said (change.Remove at) range path t u same p = ap (λ (o : Option Node). if is_some (below path p) then None else o) (same p)
same_said (change.Make at) range path t u same p = ap (with_parents_by (below p path)) (same p)
same_said (change.Put at bytes most) range path t u same p =
    ap (λ (o : Option Node). if same_path path p then Some (File bytes.now (attributes_at o)) else with_parents path t p) (same path)
    ∙ ap (λ (o : Option Node). if same_path path p then Some (File bytes.now (attributes_at (u path))) else with_parents_by (below p path) o)
    (same p)
same_said (change.Sync at rows most) range path t u same p = ap (synced_by (below path p) range.0) (same p)

-- ---- a command alone that is carried out

-- if there is one command it is carried out
abbrev pub TakesOne : Disk → List Asked → Type 0
TakesOne d asked = (a : Asked) → asked ≡ a ∷ [] → (p : ChangeSet) × Plans d a p

no_path : (text : List ℕ) (a : Asked) (d : Disk) (asked : List Asked) → AsksAt text a → IsNoPath text → asked ≡ a ∷ [] → TakesOne d asked → ⊥
no_path text a d asked at none are takes =
    let plans = (takes a are).1 in none_spelled text a plans.command at none plans.spells

unrefused : TextsSpellOnePath → VolumesAreOne → (d : Disk) (v : Volume) (c : Command) (asked : List Asked) → Holds (reading_of d) v → HasNames c
    → asked ≡ in_texts (c ∷ []) → TakesOne d asked → verdict v c ≡ None
unrefused texts one d v c asked holds names are takes =
    let plans = (takes (on_paths path_text c) are).1 in
    let volume : plans.volume ≡ v = one (reading_of d) plans.volume v plans.holds holds in
    let command : plans.command ≡ c = one_command texts c plans.command names plans.spells.0 plans.spells.1 in
    subst (λ (x : Command). verdict v x ≡ None) command
    (subst (λ (w : Volume). verdict w plans.command ≡ None) volume plans.carried.accepted.unrefused)

-- the root isn't removed
root_stays : (v : Volume) → verdict v (Rm []) ≡ None → ⊥
root_stays v none = none-some IsRoot (sym none)

-- nor is what isn't there
removed_there : (v : Volume) (p : Path) → verdict v (Rm p) ≡ None → is_none (tree v p) ≡ false
removed_there v p none =
    let walk = (first_passes (refuse_if (is_root p) IsRoot) _ none).1 in
    let there = (first_passes (walk_refusal (tree v) [] p) _ walk).1 in
    test_passes (is_none (tree v p)) NotFound (first_passes (refuse_if (is_none (tree v p)) NotFound) _ there).0

-- and where something is no directory is made
made_new : (v : Volume) (p : Path) → verdict v (Mkdir p) ≡ None → is_some (tree v p) ≡ false
made_new v p none =
    let walk = (first_passes (refuse_if (is_root p) IsRoot) _ none).1 in
    let new = (first_passes (walk_refusal (tree v) [] p) _ walk).1 in
    test_passes (is_some (tree v p)) Exists (first_passes (refuse_if (is_some (tree v p)) Exists) _ new).0

not_both : {b : Bool} → b ≡ true → b ≡ false → ⊥
not_both is_true is_false = cc

-- ---- the commands

one_path : (p : Path) → All IsName p → All (All IsName) (p ∷ [])
one_path p names = All-cons (All IsName) p [] names (All-nil (All IsName))

-- commands with names in their paths, which are asked for, and make the tree that is said
pub record SaysCommands (changing : Changing) (range : IsChangeInRange changing) (t : Path → Option Node) (asked : List Asked) : Type 0 where
  pub path : Path
  pub spelled : IsPathText (text_of changing) path
  pub commands : List Command
  pub are : asked ≡ in_texts commands
  pub named : All HasNames commands
  pub make : (p : Path) → equations_of commands t p ≡ said changing range path t p

module _ (texts : TextsSpellOnePath) (one : VolumesAreOne) (order : PathsAreOrdered) (held : RowsAreHeld) (d : Disk) (m : MountedValue)
    (asked : List Asked) (disk : IsDisk d) (is : IsMountOf d m) (takes : TakesOne d asked) where
  abbrev t : Path → Option Node
  t = tree is.volume

  abbrev rows_at : Path → List Shown
  rows_at at = held_of d at m.rows

  accepted : (c : Command) → HasNames c → asked ≡ in_texts (c ∷ []) → verdict is.volume c ≡ None
  accepted c names are = unrefused texts one d is.volume c asked is.holds names are takes

  -- where a directory is made with its parents is no file
  no_file : (path : Path) → All IsName path → asked ≡ in_texts (make_commands t path) → is_some (t path) ≡ is_directory (t path)
  no_file path names are = by (t path) refl
    where
      by : (o : Option Node) → t path ≡ o → is_some o ≡ is_directory o
      by None at = refl
      by (Some (Dir a)) at = refl
      by (Some (File bytes a)) at =
          let lone : make_commands t path ≡ Mkdir path ∷ [] =
          ap (λ (o : Option Node). if is_directory o then [] else lacking t [] path ++ Mkdir path ∷ []) at
          ∙ ap (λ (l : List Command). l ++ Mkdir path ∷ [])
          (none_lacks t (trees_are_rooted is.volume).1 [] path (ap (λ (o : Option Node). is_some o) at)) in
          let new = made_new is.volume path (accepted (Mkdir path) (one_path path names) (are ∙ ap in_texts lone)) in
          absurd (not_both (ap (λ (o : Option Node). is_some o) at) new)

  removed : (at : Bor (List ℕ)) (range : _) → ChangeAsksFor (change.Remove at) d m t asked → SaysCommands (change.Remove at) range t asked
  removed at range (inl (path, spelled, are)) = by path spelled are
    where
      by : (p : Path) → IsPathText at.now p → asked ≡ in_texts (remove_commands p (rows_at p)) → SaysCommands (change.Remove at) range t asked
      by [] spelled are = absurd (root_stays is.volume (accepted (Rm []) (one_path [] spelled.0) are))
      by (n ∷ p) spelled are = record {
        path = n ∷ p;
        spelled = spelled;
        commands = remove_commands (n ∷ p) (rows_at (n ∷ p));
        are = are;
        named = remove_named (n ∷ p) (rows_at (n ∷ p)) spelled.0
            (held_named is.volume is.sound (n ∷ p) (rows_at (n ∷ p)) (held d m is (n ∷ p) disk));
        make = removed_is_without t n p (rows_at (n ∷ p)) (held d m is (n ∷ p) disk);
      }
  removed at range (inr (none, are)) = absurd (no_path at.now (Rm at.now) d asked refl none are takes)

  made : (at : Bor (List ℕ)) (range : _) → ChangeAsksFor (change.Make at) d m t asked → SaysCommands (change.Make at) range t asked
  made at range (inl (path, spelled, are)) = record {
    path = path;
    spelled = spelled;
    commands = make_commands t path;
    are = are;
    named = make_named t path spelled.0;
    make = made_is_with_parents t path (trees_are_rooted is.volume).0 (trees_are_rooted is.volume).1 (no_file path spelled.0 are);
  }
  made at range (inr (none, are)) = absurd (no_path at.now (Mkdir at.now) d asked refl none are takes)

  put : (at bytes : Bor (List ℕ)) (most : ℕ) (range : _) → ChangeAsksFor (change.Put at bytes most) d m t asked → SaysCommands (change.Put at bytes most) range t asked
  put at bytes most range (inl (path, spelled, are)) = record {
    path = path;
    spelled = spelled;
    commands = map (bounded most) (put_commands t path bytes.now);
    are = are;
    named = bounded_named most (put_commands t path bytes.now) (put_named t path bytes.now spelled.0);
    make = λ p. ap (λ (u : Path → Option Node). u p) (same_equations most (put_commands t path bytes.now) t)
        ∙ put_is_with_file t path bytes.now (trees_are_rooted is.volume).0 p;
  }
  put at bytes most range (inr (none, are)) = absurd (no_path at.now (Put at.now bytes.now most) d asked refl none are takes)

  became : (at : Bor (List ℕ)) (rows : Bor (List SyncRow)) (most : ℕ) (range : SayFolder rows.now)
      → IsAskedOf at.now (Mkdir at.now) (λ path. map (bounded most) (sync_commands path (rows_at path) range.0)) asked
      → SaysCommands (change.Sync at rows most) range t asked
  became at rows most range (inl (path, spelled, are)) =
      let there = held d m is path disk in record {
        path = path;
        spelled = spelled;
        commands = map (bounded most) (sync_commands path (rows_at path) range.0);
        are = are;
        named = bounded_named most (sync_commands path (rows_at path) range.0)
            (sync_named path (rows_at path) range.0 (held_named is.volume is.sound path (rows_at path) there)
            (wanted_named path range.0 spelled.0 (rows_named rows.now range.0 range.1.each)));
        make = λ p. ap (λ (u : Path → Option Node). u p) (same_equations most (sync_commands path (rows_at path) range.0) t)
            ∙ synced_by_rows order t path (rows_at path) range.0 there range.1.rise (rows_bare rows.now range.0 range.1.each) p;
      }
  became at rows most range (inr (none, are)) = absurd (no_path at.now (Mkdir at.now) d asked refl none are takes)

  pub says_commands : (changing : Changing) (range : IsChangeInRange changing) → ChangeAsksFor changing d m t asked
      → SaysCommands changing range t asked
  says_commands (change.Remove at) range asks = removed at range asks
  says_commands (change.Make at) range asks = made at range asks
  says_commands (change.Put at bytes most) range asks = put at bytes most range asks
  says_commands (change.Sync at rows most) range asks = became at rows most range (asks range.0 range.1)

  -- ---- a tree that is there already

  -- where nothing is nothing is removed
  none_removed : (n : Name) (p : Path) (rows : List Shown) → All IsName (n ∷ p) → AreHeld t (n ∷ p) rows
      → asked ≡ in_texts (remove_by (n ∷ p) rows) → ((rest : Path) → t (n ∷ p ++ rest) ≡ None) → ⊥
  none_removed n p [] names are commands none =
      let there = removed_there is.volume (n ∷ p) (accepted (Rm (n ∷ p)) (one_path (n ∷ p) names) commands) in
      let nothing : t (n ∷ p) ≡ None = ap t (sym (append-nil (n ∷ p))) ∙ none [] in
      not_both (ap (λ (o : Option Node). is_none o) nothing) there
  none_removed n p (r ∷ rows) names are commands none = none-some r.node (sym (none r.path) ∙ are.right.0)

  remove_nothing : (at : List ℕ) (path : Path) → IsPathText at path → ((p : Path) → without_below path t p ≡ t p)
      → asked ≡ in_texts (remove_commands path (rows_at path)) → ⊥
  remove_nothing at [] spelled same are = root_stays is.volume (accepted (Rm []) (one_path [] spelled.0) are)
  remove_nothing at (n ∷ p) spelled same are =
      none_removed n p (rows_at (n ∷ p)) spelled.0 (held d m is (n ∷ p) disk) are
      (λ rest. sym (same (n ∷ p ++ rest)) ∙ sym (without_inside (n ∷ p) rest t))

  make_nothing : (path : Path) → All IsName path → ((p : Path) → with_parents path t p ≡ t p) → asked ≡ in_texts (make_commands t path)
      → asked ≡ []
  make_nothing path names same are =
      are ∙ ap (λ (b : Bool). in_texts (if b then [] else lacking t [] path ++ Mkdir path ∷ []))
      (sym (no_file path names are) ∙ by (t path) (ap (λ (o : Option Path). with_parents_by o (t path)) (sym (below_self path)) ∙ same path))
    where
      by : (o : Option Node) → with_parents_by (Some []) o ≡ o → is_some o ≡ true
      by None none = absurd (none-some (Dir []) (sym none))
      by (Some x) there = refl

  -- the path of the text
  at_path : (text : List ℕ) (wrong : Asked) (commands : Path → List Command) (path : Path) → AsksAt text wrong → IsPathText text path
      → IsAskedOf text wrong commands asked → asked ≡ in_texts (commands path)
  at_path text wrong commands path at spelled (inl (q, spells, are)) =
      subst (λ (p : Path). asked ≡ in_texts (commands p)) (texts text q path spells spelled) are
  at_path text wrong commands path at spelled (inr (none, are)) = absurd (none path spelled)

  pub no_commands : (changing : Changing) (range : IsChangeInRange changing) (path : Path) → ChangeAsksFor changing d m t asked → ¬ PutsFile changing
      → IsPathText (text_of changing) path → ((p : Path) → said changing range path t p ≡ t p) → asked ≡ []
  no_commands (change.Remove at) range path asks other spelled same =
      absurd (remove_nothing at.now path spelled same
      (at_path at.now (Rm at.now) (λ p. remove_commands p (rows_at p)) path refl spelled asks))
  no_commands (change.Make at) range path asks other spelled same =
      make_nothing path spelled.0 same (at_path at.now (Mkdir at.now) (make_commands t) path refl spelled asks)
  no_commands (change.Put at bytes most) range path asks other spelled same = absurd (other tt)
  no_commands (change.Sync at rows most) range path asks other spelled same =
      at_path at.now (Mkdir at.now) (λ p. map (bounded most) (sync_commands p (rows_at p) range.0)) path refl spelled (asks range.0 range.1)
      ∙ ap (λ (l : List Command). in_texts (map (bounded most) l))
      (equal_by_rows t path (rows_at path) range.0 (held d m is path disk) (rows_right order range.0 range.1.rise) same)
