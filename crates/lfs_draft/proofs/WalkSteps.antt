-- A walk along names, one after another.
use Rattle.std.proofs.Common.{◌≡◌, ℕ, ◌+◌, ◌<◌, List, ◌∷◌, Option, Some, None, length, drop, get_or, map, Result, ap, sym, ◌∙◌, Bor}
use Rattle.std.specs.Option.{ok_or, option_and_then}
use Rattle.std.specs.Result.{IfOk, IfErr}
use Rattle.std.proofs.lemmas.List.{drop_more}
use Rattle.std.proofs.lemmas.Option.{none-some}
use Rattle.lfs_meta.specs.Name.{Name}
use Rattle.lfs_meta.specs.Body.{Pair}
use Rattle.lfs_fs.specs.Entry.{Entry, target}
use Rattle.lfs_fs.specs.Directory.{Directory}
use Rattle.lfs_fs.specs.Path.{Path}
use Rattle.lfs_fs.specs.Tree.{entry_in}
use Rattle.lfs_command.specs.declared.refusal.Refusal.{Refusal}
use Rattle.lfs_command.specs.declared.refusal.Refusal.TheVariants.{NotADirectory}
use Rattle.lfs_law.specs.PairWalk.{pair_at}
use Rattle.lfs_law.specs.WalkRefusal.{goes_on, refuses_at, walk_all}

-- the names from one on
abbrev pub names_from : List (Bor Name) → ℕ → Path
names_from ns i = map (λ (n : Bor Name). n.now) (drop i ns)

next_name : (ns : List (Bor Name)) (i : ℕ) (d : Bor Name) → i < length ns → names_from ns i ≡ (get_or ns i d).now ∷ names_from ns (i + 1)
next_name ns i d within = ap (map (λ (n : Bor Name). n.now)) (drop_more ns i d within)

pub leads_more : (ds : List Directory) (k j : Pair) (ns : List (Bor Name)) (i : ℕ) (d : Bor Name) → i < length ns
    → option_and_then target (entry_in ds k (get_or ns i d).now) ≡ Some j
    → pair_at ds j (names_from ns (i + 1)) ≡ pair_at ds k (names_from ns i)
leads_more ds k j ns i d within leads =
    sym (ap (pair_at ds k) (next_name ns i d within) ∙ ap (option_and_then (λ (m : Pair). pair_at ds m (names_from ns (i + 1)))) leads)

led : (f : Pair → Option Refusal) (o : Option Pair) (j : Pair) → o ≡ Some j → goes_on f o ≡ f j
led f None j is = absurd (none-some j is)
led f (Some k) j is = ap (goes_on f) is

went : (f : Pair → Option Refusal) (o : Option Entry) (j : Pair) → option_and_then target o ≡ Some j → refuses_at f o ≡ f j
went f None j leads = absurd (none-some j leads)
went f (Some e) j leads = led f (target e) j leads

pub refuses_more : (ds : List Directory) (k j : Pair) (ns : List (Bor Name)) (i : ℕ) (d : Bor Name) → i < length ns
    → option_and_then target (entry_in ds k (get_or ns i d).now) ≡ Some j
    → walk_all ds j (names_from ns (i + 1)) ≡ walk_all ds k (names_from ns i)
refuses_more ds k j ns i d within leads =
    sym (ap (walk_all ds k) (next_name ns i d within) ∙ went (λ m. walk_all ds m (names_from ns (i + 1)))
    (entry_in ds k (get_or ns i d).now) j leads)

-- the directory that an entry leads to, or that it is a file
pub step_leads : (o : Option Entry) (k : Option Pair) (r : Result Pair Refusal) → option_and_then target o ≡ k → r ≡ ok_or k NotADirectory
    → IfOk r (λ j. option_and_then target o ≡ Some j)
step_leads o None r leads is = rw is tt
step_leads o (Some j) r leads is = rw is leads

pub step_refuses : (e : Entry) (o : Option Entry) (k : Option Pair) (r : Result Pair Refusal) → o ≡ Some e → target e ≡ k
    → r ≡ ok_or k NotADirectory → IfErr r (λ f. (rest : Pair → Option Refusal) → refuses_at rest o ≡ Some f)
step_refuses e o None r here leads is = rw is (λ rest. ap (refuses_at rest) here ∙ ap (goes_on rest) leads)
step_refuses e o (Some j) r here leads is = rw is tt
