use Rattle.std.proofs.Common.{◌≡◌, ◌==◌, refl}
use Rattle.std.specs.List.{list_all}
use Rattle.std.proofs.lemmas.Bool.Decides.{Decides-like, Decides-by_and, Decides-eqb}
use Rattle.lfs_tag.specs.LogSeen.{is_erased}
use Rattle.lfs_tag.proofs.laws.erased_is_decided.Goals as goal

pub returns : goal.returns
returns c = λ bytes.
    Decides-like (is_erased bytes) (λ h. h) (λ h. h)
    (Decides-by_and (λ b. b == 255) (λ b. b ≡ 255) (list_all (λ b. b == 255)) (λ b. Decides-eqb b 255) refl (λ _ _. refl) bytes)
