-- Texts spell the commands that they were made of.
use Rattle.std.proofs.Common.{◌≡◌, ℕ, List, [], ◌∷◌, All, refl, ap, sym, ◌∙◌, subst}
use Rattle.std.proofs.lemmas.List.Elements.{All-head, All-tail}
use Rattle.lfs_meta.specs.Name.{IsName}
use Rattle.lfs_fs.specs.Path.{IsNoPath, Path, TextsSpellOnePath, path_text}
use Rattle.lfs_command.specs.Command.{Asked, Command, HasNames, Mkdir, Put, Rm, Mv, SetAttr, RmAttr, Grow, Spells, on_paths}
use Rattle.lfs_sync.specs.SyncLaws.{TextsSpellTheirCommands}

-- ---- one command

same_path : TextsSpellOnePath → (p q : Path) (ps qs : List Path) → All (All IsName) (p ∷ ps) → All (All IsName) (q ∷ qs)
    → path_text p ≡ path_text q → p ≡ q
same_path texts p q ps qs first second same =
    texts (path_text p) p q (All-head (All IsName) p ps first, refl) (All-head (All IsName) q qs second, same)

pub one_command : TextsSpellOnePath → (c d : Command) → HasNames c → HasNames d → on_paths path_text c ≡ on_paths path_text d → d ≡ c
one_command texts (Mkdir p) (Mkdir q) first second same = ap (λ (l : Path). Mkdir l) (sym (same_path texts p q [] [] first second cc))
one_command texts (Put p bytes most) (Put q others bound) first second same =
    let contents : bytes ≡ others = cc in
    let bounds : most ≡ bound = cc in
    ap (λ (l : Path). Put l others bound) (sym (same_path texts p q [] [] first second cc))
    ∙ ap (λ (l : List ℕ). Put p l bound) (sym contents) ∙ ap (λ (n : ℕ). Put p bytes n) (sym bounds)
one_command texts (Rm p) (Rm q) first second same = ap (λ (l : Path). Rm l) (sym (same_path texts p q [] [] first second cc))
one_command texts (Mv p r) (Mv q s) first second same =
    ap (λ (l : Path). Mv l s) (sym (same_path texts p q (r ∷ []) (s ∷ []) first second cc))
    ∙ ap (λ (l : Path). Mv p l)
    (sym (same_path texts r s [] [] (All-tail (All IsName) p (r ∷ []) first) (All-tail (All IsName) q (s ∷ []) second) cc))
one_command texts (SetAttr p k value) (SetAttr q j other) first second same =
    let path : q ≡ p = sym (same_path texts p q [] [] first second cc) in
    let kind : k ≡ j = cc in
    let contents : value ≡ other = cc in
    ap (λ (l : Path). SetAttr l j other) path ∙ ap (λ (n : ℕ). SetAttr p n other) (sym kind) ∙ ap (λ (l : List ℕ). SetAttr p k l) (sym contents)
one_command texts (RmAttr p k) (RmAttr q j) first second same =
    let kind : k ≡ j = cc in
    ap (λ (l : Path). RmAttr l j) (sym (same_path texts p q [] [] first second cc)) ∙ ap (λ (n : ℕ). RmAttr p n) (sym kind)
one_command texts (Grow n) (Grow m) first second same = let count : n ≡ m = cc in ap (λ (k : ℕ). Grow k) (sym count)
one_command texts _ _ first second same = absurd cc

-- ---- all of them

pub texts_spell_their_commands : TextsSpellOnePath → TextsSpellTheirCommands
texts_spell_their_commands texts [] [] named spelled = refl
texts_spell_their_commands texts [] (d ∷ ds) named spelled = absurd spelled
texts_spell_their_commands texts (c ∷ cs) [] named spelled = absurd spelled
texts_spell_their_commands texts (c ∷ cs) (d ∷ ds) named spelled =
    ap (λ (x : Command). x ∷ ds) (one_command texts c d (All-head HasNames c cs named) spelled.0.0 spelled.0.1)
    ∙ ap (λ (l : List Command). c ∷ l) (texts_spell_their_commands texts cs ds (All-tail HasNames c cs named) spelled.1)

-- ---- a text that spells no path

-- a command at one path, which has this text
abbrev pub AsksAt : List ℕ → Asked → Type 0
AsksAt text (Mkdir at) = at ≡ text
AsksAt text (Put at bytes most) = at ≡ text
AsksAt text (Rm at) = at ≡ text
AsksAt text _ = ⊥

-- has no command
pub none_spelled : (text : List ℕ) (asked : Asked) (c : Command) → AsksAt text asked → IsNoPath text → Spells asked c → ⊥
none_spelled text asked c at none spells = by c spells.0 (subst (AsksAt text) spells.1 at)
  where
    named : (p : Path) → All (All IsName) (p ∷ []) → path_text p ≡ text → ⊥
    named p names same = none p (All-head (All IsName) p [] names, sym same)

    by : (d : Command) → HasNames d → AsksAt text (on_paths path_text d) → ⊥
    by (Mkdir p) names same = named p names same
    by (Put p bytes most) names same = named p names same
    by (Rm p) names same = named p names same
    by _ names same = absurd same
