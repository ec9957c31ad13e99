use Rattle.std.proofs.Common.{◌≡◌, ◌++◌, ◌∷◌, ◌∙◌, List, [], ap, arith, length, map, ℕ}
use Rattle.lfs_listing.specs.declared.row_parts.Span.{Span}
use Rattle.lfs_listing.specs.Using.{row_part}
use Rattle.lfs_listing.proofs.PartLemmas.{at_span, spans_more}
use Rattle.lfs_listing.proofs.row_parts.RowParts.with_row.Goals as goal

pub returns : goal.returns
returns c =
    let text = c.self.inside.text in
    let spans = c.self.inside.spans in
    let new : List ℕ = c.append_part.new.text.items in
    let end' : List ℕ = row_part c.args.form (record { path = map (λ n. n.now) c.args.path.now; entry = c.args.row.now.entry }) in
    let s : Span = record { start = c.len-start.result; end = c.len.result } in
    let start : s.start ≡ length text.items = omega (arith, c.len-start.ensures, text.ok) in
    let stop : s.end ≡ length new = omega (arith, c.len.ensures, c.append_part.new.text.ok) in
    ap (map (at_span new)) c.in_ok-push.ensures.items
    ∙ spans_more text.items end' new spans.items s c.self.invariant c.in_ok-append_part.ensures start stop
    ∙ ap (λ (xs : List (List ℕ)). xs ++ end' ∷ []) c.self.view_is
