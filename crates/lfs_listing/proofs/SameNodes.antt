-- The test whether two nodes are the same.
use Rattle.std.proofs.Common.{◌≡◌, ℕ, ◌==◌, ◌&&◌, List, [], ◌∷◌, refl, ap, ◌∙◌}
use Rattle.std.specs.Bool.{Decides}
use Rattle.std.specs.Prelude.{bytes_eq}
use Rattle.std.proofs.lemmas.Bool.Decides.{Decides-and, Decides-eqb, Decides-like}
use Rattle.std.proofs.lemmas.Slice.Eq.{bytes_eq-Decides}
use Rattle.lfs_meta.specs.Attribute.{Attributes}
use Rattle.lfs_fs.specs.Tree.{Node, File, Dir}
use Rattle.lfs_listing.specs.Difference.{same_attribute, same_attributes, same_node}

pub same_attribute_decides : (a b : ℕ × List ℕ) → Decides (same_attribute a b) (a ≡ b)
same_attribute_decides (kind, value) (other, content) =
    Decides-like (kind == other && bytes_eq value content)
    (λ h. ap (λ (k : ℕ). (k, value)) h.0 ∙ ap (λ (v : List ℕ). (other, v)) h.1)
    (λ h. (ap (λ (p : ℕ × List ℕ). p.0) h, ap (λ (p : ℕ × List ℕ). p.1) h))
    (Decides-and (kind == other) (bytes_eq value content) (Decides-eqb kind other) (bytes_eq-Decides value content))

cons_parts : (a b : ℕ × List ℕ) (more others : Attributes) → a ∷ more ≡ b ∷ others → (a ≡ b) × (more ≡ others)
cons_parts a b more others h = (cc, cc)

pub same_attributes_decides : (these those : Attributes) → Decides (same_attributes these those) (these ≡ those)
same_attributes_decides [] [] = (λ _. refl, λ _. refl)
same_attributes_decides (a ∷ more) [] = (λ h. cc, λ h. cc)
same_attributes_decides [] (b ∷ others) = (λ h. cc, λ h. cc)
same_attributes_decides (a ∷ more) (b ∷ others) =
    Decides-like (same_attributes (a ∷ more) (b ∷ others)) (λ h. ap (λ x. x ∷ more) h.0 ∙ ap (λ x. b ∷ x) h.1) (cons_parts a b more others)
    (Decides-and (same_attribute a b) (same_attributes more others) (same_attribute_decides a b) (same_attributes_decides more others))

file_parts : (x y : List ℕ) (a b : Attributes) → File x a ≡ File y b → (x ≡ y) × (a ≡ b)
file_parts x y a b h = (cc, cc)

dir_part : (a b : Attributes) → Dir a ≡ Dir b → a ≡ b
dir_part a b h = cc

pub same_node_decides : (x y : Node) → Decides (same_node x y) (x ≡ y)
same_node_decides (File x a) (File y b) =
    Decides-like (same_node (File x a) (File y b)) (λ h. ap (λ z. File z a) h.0 ∙ ap (λ c. File y c) h.1) (file_parts x y a b)
    (Decides-and (bytes_eq x y) (same_attributes a b) (bytes_eq-Decides x y) (same_attributes_decides a b))
same_node_decides (Dir a) (Dir b) =
    Decides-like (same_attributes a b) (λ h. ap (λ c. Dir c) h) (dir_part a b) (same_attributes_decides a b)
same_node_decides (File x a) (Dir b) = (λ h. cc, λ h. cc)
same_node_decides (Dir a) (File y b) = (λ h. cc, λ h. cc)
