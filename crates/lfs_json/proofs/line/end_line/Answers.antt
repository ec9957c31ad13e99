use Rattle.std.proofs.Common.{◌≡◌, ℕ, List, [], ◌∷◌, ◌++◌, ap, sym, ◌∙◌, append_assoc}
use Rattle.json.specs.Token.{Token}
use Rattle.json.specs.Print.{print}
use Rattle.json.specs.Tree.{json_tokens}
use Rattle.lfs_json.specs.Line.{line_of}
use Rattle.lfs_json.specs.Object.{Member, object_of}
use Rattle.lfs_json.specs.Written.{begun}
use Rattle.lfs_json.proofs.AddingLemmas.{object_tokens}
use Rattle.lfs_json.proofs.line.end_line.Goals as goal

ended : (before text new : List ℕ) (old tokens : List Token) (ms : List Member) → text ≡ before ++ print tokens → tokens ≡ old ++ Token.end_object ∷ []
    → new ≡ text ++ 10 ∷ [] → old ≡ begun ms → new ≡ before ++ line_of (object_of ms)
ended before text new old tokens ms integer end feed are =
    let spelled : tokens ≡ json_tokens (object_of ms) = end ∙ ap (λ (l : List Token). l ++ Token.end_object ∷ []) are ∙ sym (object_tokens ms) in
    feed ∙ ap (λ (l : List ℕ). l ++ 10 ∷ []) (integer ∙ ap (λ (l : List Token). before ++ print l) spelled)
    ∙ append_assoc before (print (json_tokens (object_of ms))) (10 ∷ [])

pub returns : goal.returns
returns c ms are = ended c.args.line.before _ _ _ _ ms
    (c.into_inner.ensures.items ∙ ap (λ (l : List ℕ). l ++ print c.end_object.new.self.tokens) c.end_object.ensures.room.0)
    c.in_ok-end_object.ensures.ok c.in_ok-extend_from_slice.ensures.items are
