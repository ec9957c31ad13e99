-- What a change of a map does to its files.
use Rattle.std.proofs.Common.{ℕ, ◌∷◌, [], List, Option, Some, String, string_bytes, refl, sym, ap, ◌∙◌}
use Rattle.std.specs.BTreeMap.{BTreeMap, UpdatesBy, get_by_text}
use Rattle.std.specs.Global.{Vec}
use Rattle.std.specs.Option.{option_map}
use Rattle.std.specs.Str.{bytes_eq}
use Rattle.std.specs.Cmp.Lexicographic.{slice_cmp}
use Rattle.std.specs.Ordering.{nat_cmp}
use Rattle.std.specs.String.{string_cmp}
use Rattle.std.proofs.lemmas.Map.Text.{btree_map_updates_text}
use Rattle.std.proofs.lemmas.Slice.Eq.{bytes_eq-Decides}
use Rattle.std.proofs.lemmas.Bool.{cond-false, cond-true, false_from_ne_true}
use Rattle.lfs_host.specs.Files.{StaysBut, HasWritten}
use Rattle.lfs_host.specs.MemoryFiles.{files_of}

-- all files but that of the name stay
pub stays : {Y : Type 0} (name : List ℕ) (old new : BTreeMap (String Y) (Vec ℕ)) (value : Option (Vec ℕ))
    → UpdatesBy string_cmp (λ k. slice_cmp nat_cmp name (string_bytes k)) old new value
    → StaysBut (name ∷ []) (files_of old) (files_of new)
stays name old new value updates other apart =
    ap (option_map (λ bytes. bytes.items)) (
    btree_map_updates_text name old new value updates other
    ∙ cond-false (bytes_eq name other) value (get_by_text old other) (false_from_ne_true (bytes_eq name other) (λ same. apart.0 (sym ((bytes_eq-Decides name other).0 same)))))

-- the file of the name has the bytes
pub written : {Y : Type 0} (name : List ℕ) (old new : BTreeMap (String Y) (Vec ℕ)) (value : Vec ℕ)
    → UpdatesBy string_cmp (λ k. slice_cmp nat_cmp name (string_bytes k)) old new (Some value)
    → HasWritten name value.items (files_of old) (files_of new)
written name old new value updates = (
  ap (option_map (λ bytes. bytes.items)) (
      btree_map_updates_text name old new (Some value) updates name
      ∙ cond-true (bytes_eq name name) (Some value) (get_by_text old name) ((bytes_eq-Decides name name).1 refl)),
  stays name old new (Some value) updates,
)
