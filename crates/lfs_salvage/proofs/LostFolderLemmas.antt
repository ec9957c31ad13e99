-- The folders for what no path leads to are below that of the image.
use Rattle.std.proofs.Common.{◌≡◌, ℕ, ◌<◌, ◌^◌, true, List, ◌++◌, Option, Result, Ok, Err, ap, arith, length, refl, replicate, subst}
use Rattle.std.proofs.lemmas.List.{length-append}
use Rattle.std.proofs.lemmas.List.Elements.{All-append, All-replicate, All-weaker}
use Rattle.std.specs.Fmt.{decimal}
use Rattle.std.specs.Prelude.{All, IfErr}
use Rattle.lfs_extract.proofs.HostNameLemmas.{all_pass}
use Rattle.lfs_extract.specs.HostNames.{IsHostName}
use Rattle.lfs_extract.specs.declared.extract_fault.ExtractFault.{ExtractFault}
use Rattle.lfs_extract.specs.declared.extract_fault.ExtractFault.TheVariants.{CannotWrite}
use Rattle.lfs_host.specs.NewFolder.{Made}
use Rattle.lfs_host.specs.Scene.{Scene}
use Rattle.lfs_salvage.specs.Below.{HasRefusedBelow, IsMadeBelow, IsNameBelow, MakesBelow, name_made}
use Rattle.lfs_salvage.specs.Lost.{area_folder, first_block, lost_name, lost_word, tildes_in}
use Rattle.lfs_salvage.specs.Saved.{lost_of, root_found}
use Rattle.lfs_salvage.proofs.NumberLemmas.{decimal_word}
use Rattle.lfs_salvage.proofs.WordLemmas.{IsPlain, below_below, below_in, below_itself, is_plain, plain_by, plain_word}
use Rattle.lfs_survey.specs.declared.area.Area.{Area}
use Rattle.lfs_survey.specs.declared.found.Found.{Found}

-- ---- the name with tildes behind it

long_word : (w : List ℕ) → All IsPlain w → 2 < length w → IsHostName w
long_word w plain long =
    plain_word w plain (omega arith) (λ is. let one : length w ≡ 1 = ap length is in omega arith)
    (λ is. let two : length w ≡ 2 = ap length is in omega arith)

name_plain : All IsPlain lost_name
name_plain = All-weaker (λ (b : ℕ). is_plain b ≡ true) IsPlain plain_by lost_name (all_pass is_plain lost_name refl)

lost_is_host : (found : List Found) → IsHostName (lost_word found)
lost_is_host found =
    let tildes : List ℕ = replicate (tildes_in found) 126 in
    let ten : length lost_name ≡ 10 = refl in
    long_word (lost_name ++ tildes)
    (All-append IsPlain lost_name tildes name_plain (All-replicate IsPlain (tildes_in found) 126 (plain_by 126 refl)))
    (omega (arith, length-append lost_name tildes))

-- ---- folders

pub lost_below : (dir : List ℕ) (areas : List Area) → IsNameBelow dir (lost_of dir areas)
lost_below dir areas = below_in dir dir (lost_word (root_found areas)) (below_itself dir) (lost_is_host (root_found areas))

-- what has a number in a folder below is below
pub area_below : (top lost : List ℕ) (n : ℕ) (a : Area) → n < 2 ^ 64 → n ≡ first_block a.calls.items → IsNameBelow top lost
    → IsNameBelow top (area_folder lost a)
area_below top lost n a small is above =
    below_in top lost (decimal (first_block a.calls.items)) above
    (decimal_word (first_block a.calls.items) (subst (λ (m : ℕ). m < 2 ^ 64) is small))

-- what is made below a folder below is below
pub made_below : (top folder : List ℕ) (old new : Option (List Made)) → IsNameBelow top folder → MakesBelow folder old new
    → MakesBelow top old new
made_below top folder old new is m = record {
  more = m.more;
  made = m.made;
  below = All-weaker (IsMadeBelow folder) (IsMadeBelow top) (λ one there. below_below top folder (name_made one) is there) m.more m.below;
}

-- so is what the host has refused to make there
refused_below : (top folder : List ℕ) (scene : Scene) → IsNameBelow top folder → HasRefusedBelow scene folder → HasRefusedBelow scene top
refused_below top folder scene is (m, there, refused) = (m, below_below top folder (name_made m) is there, refused)

pub blamed_below : {T : Type 0} (result : Result T ExtractFault) (top folder : List ℕ) (scene : Scene) → IsNameBelow top folder
    → IfErr result (λ fault. fault ≡ CannotWrite → HasRefusedBelow scene folder)
    → IfErr result (λ fault. fault ≡ CannotWrite → HasRefusedBelow scene top)
blamed_below (Ok value) top folder scene is blamed = tt
blamed_below (Err fault) top folder scene is blamed = λ same. refused_below top folder scene is (blamed same)
