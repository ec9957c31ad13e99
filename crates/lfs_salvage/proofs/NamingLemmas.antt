-- Of three names the first one that the host can have.
use Rattle.std.proofs.Common.{◌≡◌, ◌∙◌, ℕ, List, [], ◌∷◌, Option, Some, None, ap, inl, option_map, refl, sym, subst}
use Rattle.std.specs.Prelude.{is_none}
use Rattle.lfs_extract.proofs.MakingLemmas.{makes_nothing}
use Rattle.lfs_host.specs.NewFolder.{FileMade, Made, Makes}
use Rattle.lfs_host.specs.Scene.{HasRefused, HasRefusedMade, Scene}
use Rattle.lfs_salvage.specs.AreaMade.{file_made, is_nameless}
use Rattle.lfs_salvage.specs.Below.{HasRefusedBelow, IsMadeBelow, IsNameBelow}
use Rattle.lfs_salvage.specs.Naming.{GetsFirst, TriesName, thing_call, thing_made}
use Rattle.lfs_salvage.specs.declared.thing.Thing.{Thing}
use Rattle.lfs_salvage.specs.declared.thing.Thing.TheVariants as thing
use Rattle.lfs_salvage.specs.declared.wording.Wording.{Wording}
use Rattle.lfs_salvage.specs.declared.wording.Wording.TheVariants.{Own, Numbered, Alone}

-- ---- what is made under a name

pub thing_below : (what : Thing) (top name : List ℕ) → IsNameBelow top name → IsMadeBelow top (thing_made what name)
thing_below thing.Folder top name is = is
thing_below thing.File top name is = is

thing_refused : (what : Thing) (name : List ℕ) (scene : Scene) → HasRefused scene (thing_call what name)
    → HasRefusedMade scene (thing_made what name)
thing_refused thing.Folder name scene is = is
thing_refused thing.File name scene is = inl is

pub refused_thing : (what : Thing) (top name : List ℕ) (scene : Scene) → IsNameBelow top name → HasRefused scene (thing_call what name)
    → HasRefusedBelow scene top
refused_thing what top name scene below is = (thing_made what name, thing_below what top name below, thing_refused what name scene is)

-- it has the name that is asked for
pub thing_as : (what : Thing) (old new : Option (List Made)) (name other : List ℕ) → name ≡ other → Makes old new (thing_made what name ∷ [])
    → Makes old new (thing_made what other ∷ [])
thing_as what old new name other is made = subst (λ (n : List ℕ). Makes old new (thing_made what n ∷ [])) is made

-- ---- one name after another

module _ (what : Thing) (names : Wording → List ℕ) (old : Scene) where
  pub gets_own : (got : List ℕ) (new : Scene) → TriesName what (names Own) (Some got) old new → GetsFirst what names (Some got) old new
  gets_own got new (is, made, keeps) =
      record { word = Some Own; is = ap Some is; refused = tt; made = thing_as what old.made new.made (names Own) got (sym is) made }

  pub gets_numbered : (got : List ℕ) (mid new : Scene) → TriesName what (names Own) None old mid
      → TriesName what (names Numbered) (Some got) mid new → GetsFirst what names (Some got) old new
  gets_numbered got mid new (refused, same, kept) (is, made, keeps) = record {
    word = Some Numbered;
    is = ap Some is;
    refused = keeps (thing_call what (names Own)) refused;
    made = subst (λ (m : Option (List Made)). Makes m new.made (thing_made what got ∷ [])) same
        (thing_as what mid.made new.made (names Numbered) got (sym is) made);
  }

  pub gets_last : (name : Option (List ℕ)) (mid last new : Scene) → TriesName what (names Own) None old mid
      → TriesName what (names Numbered) None mid last → TriesName what (names Alone) name last new → GetsFirst what names name old new
  gets_last (Some got) mid last new (refused, same, kept) (also, stays, keeps) (is, made, holds) = record {
    word = Some Alone;
    is = ap Some is;
    refused = (
      holds (thing_call what (names Own)) (keeps (thing_call what (names Own)) refused),
      holds (thing_call what (names Numbered)) also,
    );
    made = subst (λ (m : Option (List Made)). Makes m new.made (thing_made what got ∷ [])) (stays ∙ same)
        (thing_as what last.made new.made (names Alone) got (sym is) made);
  }
  gets_last None mid last new (refused, same, kept) (also, stays, keeps) (third, rests, holds) = record {
    word = None;
    is = refl;
    refused = (
      holds (thing_call what (names Own)) (keeps (thing_call what (names Own)) refused),
      holds (thing_call what (names Numbered)) also,
      third,
    );
    made = subst (λ (m : Option (List Made)). Makes old.made m []) (sym (rests ∙ stays ∙ same)) (makes_nothing old.made);
  }

-- ---- a file under a word, or none

-- it is lost for its name if there is none
pub nameless_is : (names : Wording → List ℕ) (word : Option Wording) (name : Option (List ℕ)) (bytes : List ℕ) → name ≡ option_map names word
    → is_none name ≡ is_nameless word (Some bytes)
nameless_is names None name bytes is = ap is_none is
nameless_is names (Some word) name bytes is = ap is_none is

-- the file that is to be made has the name, or there is none
pub file_under : (P : List Made → Type 0) (names : Wording → List ℕ) (word : Option Wording) (name held : List ℕ)
    → Some name ≡ option_map names word → P (FileMade name held ∷ []) → P (file_made (option_map names word) (Some held))
file_under P names word name held is made = subst (λ (o : Option (List ℕ)). P (file_made o (Some held))) is made

pub none_under : (P : List Made → Type 0) (names : Wording → List ℕ) (word : Option Wording) (held : List ℕ)
    → None ≡ option_map names word → P [] → P (file_made (option_map names word) (Some held))
none_under P names word held is made = subst (λ (o : Option (List ℕ)). P (file_made o (Some held))) is made
