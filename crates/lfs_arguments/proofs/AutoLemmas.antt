-- The words that say `auto` for a block size, and the option that says the size of another image's blocks.
use Rattle.std.proofs.Common.{◌≡◌, ◌∙◌, ◌<◌, ◌^◌, ℕ, List, [], Option, Some, None, IfSome, IsNone, ap, codes, cond, inl, inr, refl, subst, sym}
use Rattle.std.specs.Option.{option_map_or, unwrap_or}
use Rattle.std.specs.Prelude.{is_some}
use Rattle.clap.specs.Words.{Row, Text}
use Rattle.lfs_arguments.specs.declared.auto_file.AutoFile.{AutoFile}
use Rattle.lfs_arguments.specs.Words.{BeginsAt, HasNoText, HasText, SaysAuto, SaysAutoOther, SaysAutoSource, SaysPlace, other_block}

-- they are those of the command that is named
pub auto_rows : (option id : Text) (named : Option (Text × List Row)) (name : Text) (rows : List Row) (file : Text)
    → named ≡ Some (name, rows) → SaysAuto option id named file → HasText rows option (codes "auto") × HasText rows id file
auto_rows option id named name rows file is says =
    let same : says.1 ≡ rows = ap (λ (o : Option (Text × List Row)). option_map_or (λ p. p.1) o []) (sym says.2 ∙ is) in (
      subst (λ (r : List Row). HasText r option (codes "auto")) same says.3,
      subst (λ (r : List Row). HasText r id file) same says.4,
    )

-- the image begins at the place that is said, or at the beginning of its file
pub begins : (named : Option (Text × List Row)) (name : Text) (rows : List Row) (said : Option ℕ) → named ≡ Some (name, rows)
    → IfSome said (SaysPlace rows) → (IsNone said → (place : ℕ) → SaysPlace rows place → place < 2 ^ 64 → ⊥)
    → BeginsAt named (unwrap_or said 0)
begins named name rows (Some place) is says none = inl (name, rows, is, says)
begins named name rows None is says none = inr (
  λ place names within.
      let same : names.1 ≡ rows = ap (λ (o : Option (Text × List Row)). option_map_or (λ p. p.1) o []) (sym names.2 ∙ is) in
      none refl place (subst (λ (r : List Row). SaysPlace r place) same names.3) within,
  refl,
)

-- they say it neither of one image nor of the other
pub no_other : (named : Option (Text × List Row)) (file : AutoFile) → (SaysAuto (codes "block") (codes "other") named file.name.now → ⊥)
    → (SaysAutoSource named file → ⊥) → SaysAutoOther named file → ⊥
no_other named file compared made (inl says) = compared says.0
no_other named file compared made (inr says) = made says

-- it has a text of its own, or none
pub of_its_own : (rows : List Row) (text : Text) → HasText rows (codes "from-block") text → other_block rows ≡ codes "from-block"
of_its_own rows text has = ap (λ (o : Option Text). cond (is_some o) (codes "from-block") (codes "block")) has

pub of_the_image : (rows : List Row) → HasNoText rows (codes "from-block") → other_block rows ≡ codes "block"
of_the_image rows none = ap (λ (o : Option Text). cond (is_some o) (codes "from-block") (codes "block")) none
