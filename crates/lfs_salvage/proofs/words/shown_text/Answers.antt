-- What is shown is ASCII.
use Rattle.std.proofs.Common.{◌≡◌, ◌<◌, ◌∙◌, ℕ, List, ◌++◌, ap, sym, subst, arith, flat_map}
use Rattle.std.specs.Str.{IsUtf8}
use Rattle.std.proofs.lemmas.List.Elements.{All-from_get_or}
use Rattle.lfs_listing.specs.Listing.{shown_byte}
use Rattle.lfs_salvage.proofs.WordLemmas.{shown_is_text}
use Rattle.lfs_salvage.proofs.words.shown_text.Goals as goal

pub unreachable-requires : goal.unreachable-requires
unreachable-requires c =
    let name = c.args.name.now in
    let text = shown_is_text name (All-from_get_or (λ b. b < 256) name 0 (λ i within. omega (arith, c.type_inv.name i))) c.requires in
    let is : c.append_all_shown.new.text.items ≡ flat_map shown_byte name =
    c.in_ok-append_all_shown.ensures ∙ ap (λ (xs : List ℕ). xs ++ flat_map shown_byte name) c.new-bytes.ensures.items in
    let no = c.in-Err.ensures.succeeds (subst IsUtf8 (sym is) text) in
    cc
