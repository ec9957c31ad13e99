-- One name after another is tried, until the host has one.
use Rattle.std.proofs.Common.{◌≡◌, List, ℕ, Option, Some, None, String, option_map, string_bytes, subst}
use Rattle.std.specs.Global.{Global}
use Rattle.std.proofs.lemmas.Result.{IfOk-weaker}
use Rattle.lfs_host.specs.Scene.{Scene}
use Rattle.lfs_salvage.specs.Naming.{GetsFirst, TriesName}
use Rattle.lfs_salvage.specs.Word.{word_in}
use Rattle.lfs_salvage.specs.declared.thing.Thing.{Thing}
use Rattle.lfs_salvage.specs.declared.wording.Wording.{Wording}
use Rattle.lfs_salvage.specs.declared.wording.Wording.TheVariants.{Own, Numbered, Alone}
use Rattle.lfs_salvage.proofs.NamingLemmas.{gets_last, gets_numbered, gets_own}
use Rattle.lfs_salvage.proofs.naming.make_first.Goals as goal

-- what is answered of a name
tried_as : (what : Thing) (name : List ℕ) (got told : Option (String Global)) (old new : Scene) → got ≡ told
    → TriesName what name (option_map (λ s. string_bytes s) got) old new → TriesName what name (option_map (λ s. string_bytes s) told) old new
tried_as what name got told old new is tried =
    subst (λ (o : Option (String Global)). TriesName what name (option_map (λ s. string_bytes s) o) old new) is tried

pub returns-in-Some-clause-made : goal.returns-in-Some-clause-made
returns-in-Some-clause-made g c =
    let old : Scene = g.F.Known.known c.args.folder.now in
    let new : Scene = g.F.Known.known c.make_as.new.folder in
    let names : Wording → List ℕ = word_in c.args.above.now c.args.named.block c.args.named.index c.args.named.name.now in
    gets_own c.args.what names old (string_bytes c.in-Some.name) new
    (tried_as c.args.what (names Own) c.in_ok-name.field-0 (Some c.in-Some.name) old new c.in-Some.is c.in_ok-name.ensures.tried)

pub returns-in-Some-clause-named : goal.returns-in-Some-clause-named
returns-in-Some-clause-named g c = λ top above. rw c.in-Some.is at c.in_ok-name.ensures.named top above

pub returns-in-Some-2-clause-made : goal.returns-in-Some-2-clause-made
returns-in-Some-2-clause-made g c =
    let old : Scene = g.F.Known.known c.args.folder.now in
    let mid : Scene = g.F.Known.known c.make_as.new.folder in
    let new : Scene = g.F.Known.known c.make_as-2.new.folder in
    let names : Wording → List ℕ = word_in c.args.above.now c.args.named.block c.args.named.index c.args.named.name.now in
    gets_numbered c.args.what names old (string_bytes c.in-Some-2.name) mid new
    (tried_as c.args.what (names Own) c.in_ok-name.field-0 None old mid c.in_default.is c.in_ok-name.ensures.tried)
    (tried_as c.args.what (names Numbered) c.in_ok-name-2.field-0 (Some c.in-Some-2.name) mid new c.in-Some-2.is c.in_ok-name-2.ensures.tried)

pub returns-in-Some-2-clause-named : goal.returns-in-Some-2-clause-named
returns-in-Some-2-clause-named g c = λ top above. rw c.in-Some-2.is at c.in_ok-name-2.ensures.named top above

pub returns-clause-made : goal.returns-clause-made
returns-clause-made g c =
    let old : Scene = g.F.Known.known c.args.folder.now in
    let mid : Scene = g.F.Known.known c.make_as.new.folder in
    let last : Scene = g.F.Known.known c.make_as-2.new.folder in
    let new : Scene = g.F.Known.known c.make_as-3.new.folder in
    let names : Wording → List ℕ = word_in c.args.above.now c.args.named.block c.args.named.index c.args.named.name.now in
    IfOk-weaker c.make_as-3.result (λ name. TriesName c.args.what (names Alone) (option_map (λ s. string_bytes s) name) last new)
    (λ name. GetsFirst c.args.what names (option_map (λ s. string_bytes s) name) old new)
    (λ name tried. gets_last c.args.what names old (option_map (λ s. string_bytes s) name) mid last new
    (tried_as c.args.what (names Own) c.in_ok-name.field-0 None old mid c.in_default.is c.in_ok-name.ensures.tried)
    (tried_as c.args.what (names Numbered) c.in_ok-name-2.field-0 None mid last c.in_default-2.is c.in_ok-name-2.ensures.tried) tried)
    c.make_as-3.ensures.tried
