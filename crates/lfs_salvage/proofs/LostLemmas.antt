-- What is saved of areas to which no path leads, one after another.
use Rattle.std.proofs.Common.{◌≡◌, ℕ, ◌+◌, ◌<◌, Bool, true, false, List, [], ◌∷◌, ◌++◌, Option, length, get_or, drop, refl, ap, sym, subst, ◌∙◌, inl}
use Rattle.std.specs.Prelude.{if◌then◌else◌, slice_set}
use Rattle.std.proofs.lemmas.List.{at_drop_more}
use Rattle.lfs_block.specs.Disk.{Disk}
use Rattle.lfs_salvage.specs.AllMade.{all_lost_made, all_lost_unsaved, all_lost_uses, front_behind_all, lost_made, lost_unsaved, lost_uses, marked_used}
use Rattle.lfs_salvage.specs.Fate.{is_free}
use Rattle.lfs_salvage.specs.AreaMade.{area_made, area_unsaved, area_uses}
use Rattle.lfs_salvage.specs.CallWords.{CallWords}
use Rattle.lfs_salvage.specs.Lost.{area_folder, front_behind, front_made, has_start}
use Rattle.lfs_salvage.specs.PartsUsed.{areas_uses, parts_uses}
use Rattle.lfs_salvage.specs.declared.block_use.BlockUse.{BlockUse}
use Rattle.lfs_salvage.specs.declared.front.Front.{Front}
use Rattle.lfs_salvage.specs.declared.front.Front.TheVariants.{There}
use Rattle.lfs_extract.proofs.MakingLemmas.{makes_nothing}
use Rattle.lfs_extract.specs.Extracted.{MakesFront}
use Rattle.lfs_host.specs.NewFolder.{Made, Makes}
use Rattle.lfs_salvage.proofs.AreaLemmas.{Plan, plan_then}
use Rattle.lfs_survey.specs.declared.area.Area.{Area}

abbrev pub lost_plan : Disk → List ℕ → List ℕ → Front → ℕ → List BlockUse → List Area → List (List CallWords) → Plan
lost_plan d dir lost front number uses areas words = record {
  made = all_lost_made d dir lost front number words uses areas;
  uses = all_lost_uses d number uses areas;
  unsaved = all_lost_unsaved d number words uses areas;
}

-- one area and the rest
pub lost_more : (d : Disk) (dir lost : List ℕ) (front : Front) (number i : ℕ) (uses : List BlockUse) (areas : List Area) (a : Area)
    (n : List CallWords) (rest : List (List CallWords)) → i < length areas → a ≡ get_or areas i a
    → lost_plan d dir lost front number uses (drop i areas) (n ∷ rest)
    ≡ plan_then (lost_made d dir lost front number n uses a) (lost_unsaved d number n uses a)
    (lost_plan d dir lost (front_behind front a) (number + 1) (lost_uses d number uses a) (drop (i + 1) areas) rest)
lost_more d dir lost front number i uses areas a n rest within is =
    at_drop_more (λ (xs : List Area). lost_plan d dir lost front number uses xs (n ∷ rest)) areas i a within
    ∙ ap (λ (x : Area). plan_then (lost_made d dir lost front number n uses x) (lost_unsaved d number n uses x)
    (lost_plan d dir lost (front_behind front x) (number + 1) (lost_uses d number uses x) (drop (i + 1) areas) rest)) (sym is)

-- the folders that lack behind it
pub front_more : (front : Front) (i : ℕ) (areas : List Area) (a : Area) → i < length areas → a ≡ get_or areas i a
    → front_behind_all front (drop i areas) ≡ front_behind_all (front_behind front a) (drop (i + 1) areas)
front_more front i areas a within is =
    at_drop_more (front_behind_all front) areas i a within
    ∙ ap (λ (x : Area). front_behind_all (front_behind front x) (drop (i + 1) areas)) (sym is)

-- one block more that may be in use
pub marked_more : (looked : List Bool) (i : ℕ) (uses : List BlockUse) (u : BlockUse) → i < length uses → u ≡ get_or uses i u
    → marked_used looked i (drop i uses) ≡ marked_used (if is_free u then looked else slice_set looked i true) (i + 1) (drop (i + 1) uses)
marked_more looked i uses u within is =
    at_drop_more (marked_used looked i) uses i u within
    ∙ ap (λ (x : BlockUse). marked_used (if is_free x then looked else slice_set looked i true) (i + 1) (drop (i + 1) uses)) (sym is)

-- the host refuses the first of what is to be made
pub front_refused : (old new : Option (List Made)) (one : Made) (rest : List Made) → new ≡ old → MakesFront old new (one ∷ rest)
front_refused old new one rest same = record {
  prefix = [];
  next = one;
  rest = rest;
  begun = [];
  split = refl;
  is_begun = inl refl;
  made = subst (λ (x : Option (List Made)). Makes old x []) (sym same) (makes_nothing old);
}

-- the parts of one area more are marked
pub marks_more : (uses : List BlockUse) (n i : ℕ) (areas : List Area) (a : Area) → i < length areas → a ≡ get_or areas i a
    → areas_uses uses n (drop i areas) ≡ areas_uses (parts_uses uses n 0 a.found.items) (n + 1) (drop (i + 1) areas)
marks_more uses n i areas a within is =
    at_drop_more (areas_uses uses n) areas i a within
    ∙ ap (λ (x : Area). areas_uses (parts_uses uses n 0 x.found.items) (n + 1) (drop (i + 1) areas)) (sym is)

-- ---- an area to which no path leads

module _ (d : Disk) (dir lost : List ℕ) (front : Front) (number : ℕ) (words : List CallWords) (uses : List BlockUse) (a : Area) where
  abbrev begun_made : List Made
  begun_made = front_made dir lost front ++ area_made d (area_folder lost a) number words uses a

  -- nothing is saved where no part is found at its beginning
  pub none_made : has_start a.found.items ≡ false → lost_made d dir lost front number words uses a ≡ []
  none_made is = ap (λ (t : Bool). if t then begun_made else []) is

  -- else the folders that lack are made, and then what is found
  pub some_made : has_start a.found.items ≡ true → lost_made d dir lost front number words uses a
      ≡ front_made dir lost front ++ area_made d (area_folder lost a) number words uses a
  some_made is = ap (λ (t : Bool). if t then begun_made else []) is

pub none_unsaved : (d : Disk) (number : ℕ) (words : List CallWords) (uses : List BlockUse) (a : Area) → has_start a.found.items ≡ false
    → lost_unsaved d number words uses a ≡ []
none_unsaved d number words uses a is = ap (λ (t : Bool). if t then area_unsaved d number words uses a else []) is

pub some_unsaved : (d : Disk) (number : ℕ) (words : List CallWords) (uses : List BlockUse) (a : Area) → has_start a.found.items ≡ true
    → lost_unsaved d number words uses a ≡ area_unsaved d number words uses a
some_unsaved d number words uses a is = ap (λ (t : Bool). if t then area_unsaved d number words uses a else []) is

pub none_used : (d : Disk) (number : ℕ) (uses : List BlockUse) (a : Area) → has_start a.found.items ≡ false
    → lost_uses d number uses a ≡ uses
none_used d number uses a is = ap (λ (t : Bool). if t then area_uses d number uses a else uses) is

pub some_used : (d : Disk) (number : ℕ) (uses : List BlockUse) (a : Area) → has_start a.found.items ≡ true
    → lost_uses d number uses a ≡ area_uses d number uses a
some_used d number uses a is = ap (λ (t : Bool). if t then area_uses d number uses a else uses) is

pub front_same : (front : Front) (a : Area) → has_start a.found.items ≡ false → front_behind front a ≡ front
front_same front a is = ap (λ (t : Bool). if t then There else front) is
