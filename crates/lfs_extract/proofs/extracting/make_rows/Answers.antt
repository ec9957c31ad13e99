-- One row more is made, or is passed over.
use Rattle.std.proofs.Common.{rules, ◌≡◌, ◌≢◌, ◌-◌, ◌∙◌, [], ◌∷◌, Bor, List, ℕ, None, Option, Some, true, ap, length, refl, sym, subst, map, string_bytes}
use Rattle.std.specs.Prelude.{is_some}
use Rattle.std.specs.Str.{IsUtf8}
use Rattle.lfs_block.specs.Disk.{Disk}
use Rattle.lfs_command.specs.PathMap.{below}
use Rattle.lfs_meta.specs.Name.{Name}
use Rattle.lfs_fs.specs.Path.{Path}
use Rattle.lfs_fs.specs.Row.{Row}
use Rattle.lfs_fs.specs.RowShown.{shown_node}
use Rattle.lfs_fs.specs.Listed.{Listed, path_after, rows_after, rows_listed}
use Rattle.lfs_listing.specs.Below.{names}
use Rattle.lfs_extract.specs.PathBelow.{host_name}
use Rattle.lfs_host.specs.NewFolder.{Made, Makes}
use Rattle.lfs_host.specs.Scene.{HasRefusedMade}
use Rattle.lfs_extract.specs.Extracted.{IsBegun, made_node}
use Rattle.lfs_extract.specs.RowsBelow.{IsSharedPrefix}
use Rattle.lfs_extract.proofs.PrefixLemmas.{left_after}
use Rattle.lfs_extract.proofs.MakingLemmas.{AreLeft, all_left, has_blocks, has_texts, host_blamed, host_stops, last_text, memory_stops, named_at, next_there, none_left, not_below}
use Rattle.lfs_extract.proofs.MakingLemmas.{one_more, passed, root_left, some_left, stopped, stopped_at}
use Rattle.lfs_extract.proofs.extracting.make_rows.Goals as goal

pub loop-row-init : goal.loop-row-init
loop-row-init g c =
    let old : Option (List Made) = (g.F.Known.known c.args.folder.now).made in
    let d : Disk = g.B.Blocks.disk c.args.disk.now in
    let at : Path = names c.args.at.now in
    let rows : List Row = rows_listed c.args.rows in
    let same : c.into_iter-row-iterator.result ≡ c.args.rows = search rules in
    let none : map (λ (n : Bor Name). n.now) c.new-rest.result.items ≡ [] = ap (map (λ (n : Bor Name). n.now)) c.new-rest.ensures.items in (
      [],
      record {
        prefix = c.new-prefix.ensures at;
        rest = root_left at (map (λ (n : Bor Name). n.now) c.new-rest.result.items) none;
        left = subst (λ (xs : List Listed). AreLeft old old d at c.args.dir.now (rows_after [] xs) rows) (sym same)
            (all_left old d at c.args.dir.now rows c.requires.blocks c.requires.texts);
        kept = search rules;
      },
    )

pub loop-row-preserved-then-not-is_below : goal.loop-row-preserved-then-not-is_below
loop-row-preserved-then-not-is_below g c =
    let at : Path = names c.args.at.now in
    let q : Path = c.loop-row.invariant.0 in
    let x : Listed = c.in-Some.row in
    let p : Path = path_after q x.depth x.entry.name in
    let prefix : IsSharedPrefix at p c.behind-prefix.result = c.behind-prefix.ensures q c.loop-row.invariant.1.prefix in
    let none : below at p ≡ None = not_below at p (c.if-not-is_below.ensures p prefix) in (
      p,
      record {
        prefix = prefix;
        rest = none_left at p (map (λ (n : Bor Name). n.now) c.loop-row.rest.items) none;
        left = passed _ _ _ at _ q c.loop-row.row-iterator c.next.new.self x _ c.loop-row.invariant.1.left c.in-Some.ensures.steps none;
        kept = c.loop-row.invariant.1.kept;
      },
    )

pub follow_rest-requires : goal.follow_rest-requires
follow_rest-requires g c =
    let at : Path = names c.args.at.now in
    let q : Path = c.loop-row.invariant.0 in
    let x : Listed = c.in-Some.row in
    let p : Path = path_after q x.depth x.entry.name in
    let left : Path = map (λ (n : Bor Name). n.now) c.loop-row.rest.items in
    let prefix : IsSharedPrefix at p c.behind-prefix.result = c.behind-prefix.ensures q c.loop-row.invariant.1.prefix in
    let there : is_some (below at p) ≡ true = sym (c.if-not-is_below.ensures p prefix) in
    let inside : below at p ≡ Some (path_after left (length p - length at) x.entry.name) =
    left_after at q left x.depth x.entry.name c.loop-row.invariant.1.rest there in
    let texts = has_texts _ _ _ at _ q c.loop-row.row-iterator c.next.new.self x _ c.loop-row.invariant.1.left c.in-Some.ensures.steps
    (path_after left (length p - length at) x.entry.name) inside in
    subst (λ (y : Listed). c.more.result ≢ 0 → IsUtf8 y.entry.name) (sym c.row.view_is)
    (last_text left (length p - length at) c.more.result x.entry.name (c.more.ensures p prefix) texts)

pub make_row-requires : goal.make_row-requires
make_row-requires g c = record {
  blocks = has_blocks _ _ _ (names c.args.at.now) _ c.loop-row.invariant.0 c.loop-row.row-iterator c.next.new.self c.in-Some.row _
      c.loop-row.invariant.1.left c.in-Some.ensures.steps;
}

pub loop-row-preserved : goal.loop-row-preserved
loop-row-preserved g c =
    let old : Option (List Made) = (g.F.Known.known c.args.folder.now).made in
    let mid : Option (List Made) = (g.F.Known.known c.loop-row.folder).made in
    let new : Option (List Made) = (g.F.Known.known c.make_row.new.folder).made in
    let d : Disk = g.B.Blocks.disk c.args.disk.now in
    let dir : List ℕ = c.args.dir.now in
    let at : Path = names c.args.at.now in
    let q : Path = c.loop-row.invariant.0 in
    let x : Listed = c.in-Some.row in
    let p : Path = path_after q x.depth x.entry.name in
    let left : Path = map (λ (n : Bor Name). n.now) c.loop-row.rest.items in
    let rest : Path = map (λ (n : Bor Name). n.now) c.follow_rest.new.rest.items in
    let prefix : IsSharedPrefix at p c.behind-prefix.result = c.behind-prefix.ensures q c.loop-row.invariant.1.prefix in
    let there : is_some (below at p) ≡ true = sym (c.if-not-is_below.ensures p prefix) in
    let goes : rest ≡ path_after left c.more.result x.entry.name =
    subst (λ (y : Listed). rest ≡ path_after left c.more.result y.entry.name) c.row.view_is c.in_ok-follow_rest.ensures in
    let inside : below at p ≡ Some rest =
    left_after at q left x.depth x.entry.name c.loop-row.invariant.1.rest there
    ∙ ap (λ (i : ℕ). Some (path_after left i x.entry.name)) (sym (c.more.ensures p prefix)) ∙ ap (λ (r : Path). Some r) (sym goes) in
    let named = named_at dir c.as_str.result.now (string_bytes c.in_ok-name.name) c.deref.result.now c.follow_rest.new.rest.items rest
    c.as_str.ensures.value c.in_ok-name.ensures c.deref.ensures.value refl in
    let made : Makes mid new (made_node (host_name dir rest) (shown_node d x.entry) ∷ []) =
    subst (λ (n : List ℕ). Makes mid new (made_node n (shown_node d x.entry) ∷ [])) named c.in_ok-make_row.ensures.made in (
      p,
      record {
        prefix = prefix;
        rest = some_left at p rest inside;
        left = one_more old mid d at dir q c.loop-row.row-iterator c.next.new.self x (rows_listed c.args.rows) c.loop-row.invariant.1.left
            c.in-Some.ensures.steps rest inside new made;
        kept = (
          c.in_ok-make_row.ensures.kept.0 ∙ c.loop-row.invariant.1.kept.0,
          c.in_ok-make_row.ensures.kept.1 ∙ c.loop-row.invariant.1.kept.1,
          c.in_ok-make_row.ensures.kept.2 ∙ c.loop-row.invariant.1.kept.2,
        );
      },
    )

pub returns-in_err-follow_rest-clause-made : goal.returns-in_err-follow_rest-clause-made
returns-in_err-follow_rest-clause-made g c =
    let at : Path = names c.args.at.now in
    let q : Path = c.loop-row.invariant.0 in
    let x : Listed = c.in-Some.row in
    let p : Path = path_after q x.depth x.entry.name in
    let left : Path = map (λ (n : Bor Name). n.now) c.loop-row.rest.items in
    let prefix : IsSharedPrefix at p c.behind-prefix.result = c.behind-prefix.ensures q c.loop-row.invariant.1.prefix in
    let there : is_some (below at p) ≡ true = sym (c.if-not-is_below.ensures p prefix) in
    let inside : below at p ≡ Some (path_after left (length p - length at) x.entry.name) =
    left_after at q left x.depth x.entry.name c.loop-row.invariant.1.rest there in
    memory_stops c.from_residual.result _ _ _ c.from_residual.ensures.1
    (stopped _ _ _ at _ q c.loop-row.row-iterator c.next.new.self x _ c.loop-row.invariant.1.left c.in-Some.ensures.steps
    (path_after left (length p - length at) x.entry.name) inside)

pub returns-in_err-name-clause-made : goal.returns-in_err-name-clause-made
returns-in_err-name-clause-made g c =
    let at : Path = names c.args.at.now in
    let q : Path = c.loop-row.invariant.0 in
    let x : Listed = c.in-Some.row in
    let p : Path = path_after q x.depth x.entry.name in
    let left : Path = map (λ (n : Bor Name). n.now) c.loop-row.rest.items in
    let prefix : IsSharedPrefix at p c.behind-prefix.result = c.behind-prefix.ensures q c.loop-row.invariant.1.prefix in
    let there : is_some (below at p) ≡ true = sym (c.if-not-is_below.ensures p prefix) in
    let inside : below at p ≡ Some (path_after left (length p - length at) x.entry.name) =
    left_after at q left x.depth x.entry.name c.loop-row.invariant.1.rest there in
    memory_stops c.from_residual-in_err-name.result _ _ _ c.from_residual-in_err-name.ensures.1
    (stopped _ _ _ at _ q c.loop-row.row-iterator c.next.new.self x _ c.loop-row.invariant.1.left c.in-Some.ensures.steps
    (path_after left (length p - length at) x.entry.name) inside)

pub returns-in_err-make_row-clause-made : goal.returns-in_err-make_row-clause-made
returns-in_err-make_row-clause-made g c =
    let at : Path = names c.args.at.now in
    let q : Path = c.loop-row.invariant.0 in
    let x : Listed = c.in-Some.row in
    let p : Path = path_after q x.depth x.entry.name in
    let left : Path = map (λ (n : Bor Name). n.now) c.loop-row.rest.items in
    let prefix : IsSharedPrefix at p c.behind-prefix.result = c.behind-prefix.ensures q c.loop-row.invariant.1.prefix in
    let there : is_some (below at p) ≡ true = sym (c.if-not-is_below.ensures p prefix) in
    let rest : Path = map (λ (n : Bor Name). n.now) c.follow_rest.new.rest.items in
    let goes : rest ≡ path_after left c.more.result x.entry.name =
    subst (λ (y : Listed). rest ≡ path_after left c.more.result y.entry.name) c.row.view_is c.in_ok-follow_rest.ensures in
    let inside : below at p ≡ Some rest =
    left_after at q left x.depth x.entry.name c.loop-row.invariant.1.rest there
    ∙ ap (λ (i : ℕ). Some (path_after left i x.entry.name)) (sym (c.more.ensures p prefix)) ∙ ap (λ (r : Path). Some r) (sym goes) in
    let named = named_at c.args.dir.now c.as_str.result.now (string_bytes c.in_ok-name.name) c.deref.result.now c.follow_rest.new.rest.items rest
    c.as_str.ensures.value c.in_ok-name.ensures c.deref.ensures.value refl in
    let d : Disk = g.B.Blocks.disk c.args.disk.now in
    let mid : Option (List Made) = (g.F.Known.known c.loop-row.folder).made in
    let new : Option (List Made) = (g.F.Known.known c.make_row.new.folder).made in
    let begun = subst (λ (n : List ℕ). (ms : List Made) × IsBegun (made_node n (shown_node d x.entry)) ms × Makes mid new ms) named
    c.in_err-make_row.ensures.made in
    host_stops c.from_residual-in_err-make_row.result _ _ _ c.from_residual-in_err-make_row.ensures.1
    (stopped_at _ _ _ at _ q c.loop-row.row-iterator c.next.new.self x _ c.loop-row.invariant.1.left c.in-Some.ensures.steps rest inside
    new begun.0 begun.1 begun.2)

pub returns-in_err-make_row-clause-blamed : goal.returns-in_err-make_row-clause-blamed
returns-in_err-make_row-clause-blamed g c =
    let at : Path = names c.args.at.now in
    let q : Path = c.loop-row.invariant.0 in
    let x : Listed = c.in-Some.row in
    let p : Path = path_after q x.depth x.entry.name in
    let left : Path = map (λ (n : Bor Name). n.now) c.loop-row.rest.items in
    let prefix : IsSharedPrefix at p c.behind-prefix.result = c.behind-prefix.ensures q c.loop-row.invariant.1.prefix in
    let there : is_some (below at p) ≡ true = sym (c.if-not-is_below.ensures p prefix) in
    let rest : Path = map (λ (n : Bor Name). n.now) c.follow_rest.new.rest.items in
    let goes : rest ≡ path_after left c.more.result x.entry.name =
    subst (λ (y : Listed). rest ≡ path_after left c.more.result y.entry.name) c.row.view_is c.in_ok-follow_rest.ensures in
    let inside : below at p ≡ Some rest =
    left_after at q left x.depth x.entry.name c.loop-row.invariant.1.rest there
    ∙ ap (λ (i : ℕ). Some (path_after left i x.entry.name)) (sym (c.more.ensures p prefix)) ∙ ap (λ (r : Path). Some r) (sym goes) in
    let named = named_at c.args.dir.now c.as_str.result.now (string_bytes c.in_ok-name.name) c.deref.result.now c.follow_rest.new.rest.items rest
    c.as_str.ensures.value c.in_ok-name.ensures c.deref.ensures.value refl in
    let d : Disk = g.B.Blocks.disk c.args.disk.now in
    let new = g.F.Known.known c.make_row.new.folder in
    host_blamed c.from_residual-in_err-make_row.result new _ (made_node (host_name c.args.dir.now rest) (shown_node d x.entry))
    (next_there _ _ d at c.args.dir.now q c.loop-row.row-iterator c.next.new.self x _ c.loop-row.invariant.1.left c.in-Some.ensures.steps rest inside)
    (subst (λ (n : List ℕ). HasRefusedMade new (made_node n (shown_node d x.entry))) named c.in_err-make_row.ensures.blamed)
