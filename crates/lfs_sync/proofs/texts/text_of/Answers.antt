use Rattle.std.proofs.Common.{arith, ap, List, [], ◌++◌, ◌≡◌, ◌∙◌, ℕ, length}
use Rattle.std.specs.Vec.{vec_len}
use Rattle.lfs_fs.specs.Path.{Path}
use Rattle.lfs_listing.specs.Below.{names}
use Rattle.lfs_sync.proofs.TextLemmas.{both_slashed, no_text, some_text, slashed}
use Rattle.lfs_sync.proofs.texts.text_of.Goals as goal

pub returns-then-is_empty : goal.returns-then-is_empty
returns-then-is_empty c =
    let prefix : Path = names c.args.prefix.now in
    let first : c.append_names.new.text.items ≡ [] ++ slashed prefix =
    c.in_ok-append_names.ensures ∙ ap (λ (l : List ℕ). l ++ slashed prefix) c.new-text.ensures.items in
    let long : vec_len c.append_names-2.new.text ≡ length c.append_names-2.new.text.items = omega arith in
    c.in_ok-push.ensures.items
    ∙ no_text _ _ _ (both_slashed prefix (names c.args.rest.now) _ _ first c.in_ok-append_names-2.ensures) long c.if-is_empty.ensures

pub returns : goal.returns
returns c =
    let prefix : Path = names c.args.prefix.now in
    let first : c.append_names.new.text.items ≡ [] ++ slashed prefix =
    c.in_ok-append_names.ensures ∙ ap (λ (l : List ℕ). l ++ slashed prefix) c.new-text.ensures.items in
    let long : vec_len c.append_names-2.new.text ≡ length c.append_names-2.new.text.items = omega arith in
    some_text _ _ _ (both_slashed prefix (names c.args.rest.now) _ _ first c.in_ok-append_names-2.ensures) long c.if-is_empty.ensures
