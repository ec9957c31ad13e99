use Rattle.std.proofs.Common.{◌≡◌, ◌+◌, ◌++◌, ◌∷◌, ◌∙◌, Bor, List, [], ap, length, map, subst, sym, ℕ}
use Rattle.std.proofs.lemmas.List.{length_push}
use Rattle.lfs_meta.specs.Name.{Name}
use Rattle.lfs_fs.specs.Listed.{Listed, path_after, row_after, rows_after, rows_listed}
use Rattle.lfs_fs.specs.Path.{Path}
use Rattle.lfs_listing.specs.Using.{given_body, row_part}
use Rattle.lfs_listing.proofs.GatheringLemmas.{AreGiven, AreMade, all_given, all_made, none_given, none_made, row_given, row_made}
use Rattle.lfs_listing.proofs.gathering.gather_parts.Goals as goal

-- the names of a path
abbrev names : List (Bor Name) → Path
names path = map (λ (n : Bor Name). n.now) path

pub loop-row-init : goal.loop-row-init
loop-row-init c =
    let m = c.args.mounted.now in
    let left : List Listed = c.into_iter-row-iterator.result in
    let all : rows_listed left ≡ m.rows = ap rows_listed c.into_iter-row-iterator.ensures.into_iter_gives ∙ c.rows-row-items.ensures in
    let none : names c.new-path.result.items ≡ [] = ap names c.new-path.ensures.items in
    record {
      users = subst (λ (p : Path). AreGiven m.outline m.rows (length c.new-parts.result) c.args.users.now (rows_after p left)) (sym none)
          (subst (λ (n : ℕ). AreGiven m.outline m.rows n c.args.users.now (rows_after [] left)) (sym (ap length c.new-parts.ensures))
          (none_given m.outline m.rows left c.args.users.now c.requires.none all));
      parts = subst (λ (p : Path). AreMade (row_part c.args.form) m.rows c.new-parts.result (rows_after p left)) (sym none)
          (none_made (row_part c.args.form) m.rows left c.new-parts.result c.new-parts.ensures all);
    }

pub loop-row-preserved : goal.loop-row-preserved
loop-row-preserved c =
    let m = c.args.mounted.now in
    let q : Path = names c.loop-row.path.items in
    let next : Path = names c.follow_row.new.path.items in
    let x : Listed = c.in-Some.row in
    let path : next ≡ path_after q x.depth x.entry.name = c.in_ok-follow_row.ensures in
    let end' : c.in_ok-parts.parts ≡ c.loop-row.parts ++ row_part c.args.form (row_after q x) ∷ [] =
    c.in_ok-parts.ensures
    ∙ ap (λ (p : Path). c.loop-row.parts ++ row_part c.args.form (record { path = p; entry = x.entry }) ∷ []) (ap names c.deref.ensures.value ∙ path) in
    let more : length c.in_ok-parts.parts ≡ length c.loop-row.parts + 1 = ap length end' ∙ length_push c.loop-row.parts (row_part c.args.form (row_after q x)) in
    record {
      users = row_given m.outline m.rows (length c.loop-row.parts) (length c.in_ok-parts.parts) c.loop-row.users c.give_row.new.users
          c.args.directories.now q next c.loop-row.row-iterator c.next.new.self x c.loop-row.invariant.users c.in-Some.ensures.steps
          c.requires.directories
          (c.give_row.ensures ∙ ap (λ (n : ℕ). given_body c.args.directories.now n c.loop-row.users x.entry.body) c.len.ensures) path more;
      parts = row_made (row_part c.args.form) m.rows c.loop-row.parts c.in_ok-parts.parts q next c.loop-row.row-iterator c.next.new.self x
          c.loop-row.invariant.parts c.in-Some.ensures.steps end' path;
    }

pub returns-clause-users : goal.returns-clause-users
returns-clause-users c = all_given c.args.mounted.now.outline c.args.mounted.now.rows (length c.loop-row.parts) c.loop-row.users
    (names c.loop-row.path.items) c.loop-row.row-iterator c.in-None.ensures.steps.0 c.loop-row.invariant.users

pub returns-clause-parts : goal.returns-clause-parts
returns-clause-parts c = all_made (row_part c.args.form) c.args.mounted.now.rows c.loop-row.parts (names c.loop-row.path.items) c.loop-row.row-iterator
    c.in-None.ensures.steps.0 c.loop-row.invariant.parts
