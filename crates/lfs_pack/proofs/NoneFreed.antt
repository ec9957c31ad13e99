-- The commands of rows free no block, so what uses a block once goes on to.
use Rattle.std.proofs.Common.{◌≡◌, ◌+◌, ◌≤◌, ℕ, true, List, [], ◌∷◌, ◌++◌, Option, Some, None, refl, ap, sym, ◌∙◌, subst, arith, take}
use Rattle.std.specs.Prelude.{All}
use Rattle.std.specs.Option.{option_map, unwrap_or}
use Rattle.std.proofs.lemmas.List.Elements.{All-cons, All-head, All-tail}
use Rattle.lfs_meta.specs.Attribute.{Attributes}
use Rattle.lfs_fs.specs.declared.limits.Limits.{Limits}
use Rattle.lfs_fs.specs.Entry.{Entry}
use Rattle.lfs_fs.specs.Formatted.{empty_volume}
use Rattle.lfs_fs.specs.Free.{free_blocks}
use Rattle.lfs_fs.specs.Path.{Path}
use Rattle.lfs_fs.specs.Row.{PathsAreOrdered, path_precedes}
use Rattle.lfs_fs.specs.Sound.{IsSound}
use Rattle.lfs_fs.specs.Tree.{Node, entry_at, node, tree}
use Rattle.lfs_fs.specs.Uses.{entry_uses, times, uses}
use Rattle.lfs_fs.specs.Volume.{Volume}
use Rattle.lfs_command.specs.Command.{Command, Put}
use Rattle.lfs_command.specs.Cut.{cut}
use Rattle.lfs_command.specs.Edited.{edited}
use Rattle.lfs_command.specs.Freed.{freed_uses}
use Rattle.lfs_command.specs.Growth.{grown}
use Rattle.lfs_command.specs.Need.{need}
use Rattle.lfs_command.specs.Planned.{CarriesOut}
use Rattle.lfs_law.specs.Laws.{UsesAfter}
use Rattle.lfs_law.proofs.CarriedFollow.{CarriedFollow}
use Rattle.lfs_law.proofs.Cleans.{clean_uses_all}
use Rattle.lfs_law.proofs.LeastTaken.{least_taken}
use Rattle.lfs_pack.specs.Lead.{Lead}
use Rattle.lfs_pack.specs.Packed.{ArePackable, KindsRise, Packed, PackedRise, commands, making, row_commands, setting}
use Rattle.lfs_pack.proofs.LedLemmas.{AllCanStand, CanStand, all_new_stand, lacking, others_stand, root_stands, row_led, split_led, with_row}

-- commands that lead on, none of which frees a block
abbrev pub LeadOn : List Command → Volume → Volume → Type 0
LeadOn [] v w = w ≡ v
LeadOn (c ∷ cs) v w = (u : Volume) × CarriesOut c v u × ((b : ℕ) → freed_uses v c b ≡ 0) × LeadOn cs u w

both_on : (cs ds : List Command) (v u w : Volume) → LeadOn cs v u → LeadOn ds u w → LeadOn (cs ++ ds) v w
both_on [] ds v u w is more = subst (λ (x : Volume). LeadOn ds x w) is more
both_on (c ∷ cs) ds v u w (x, does, none, led) more = (x, does, none, both_on cs ds x u w led more)

-- ---- a row

setting_on : (p : Path) (a : Attributes) (v w : Volume) → Lead (setting p a) v w → LeadOn (setting p a) v w
setting_on p [] v w led = led
setting_on p (a ∷ more) v w (u, does, led) = (u, does, λ b. refl, setting_on p more u w led)

-- a file that is put where nothing is frees none
none_freed : (v : Volume) (p : Path) (bytes : List ℕ) (most : ℕ) → tree v p ≡ None → (b : ℕ) → freed_uses v (Put p bytes most) b ≡ 0
none_freed v p bytes most none b = by (entry_at v p) none
  where
    by : (o : Option Entry) → option_map node o ≡ None → unwrap_or (option_map (entry_uses b) o) 0 ≡ 0
    by None is = refl
    by (Some e) is = absurd (cc)

row_on : (p : Path) (bytes : Option (List ℕ)) (most : ℕ) (a : Attributes) (v w : Volume) (old : Path → Option Node) → CanStand old p bytes
    → ((q : Path) → tree v q ≡ old q) → Lead (making p bytes most ++ setting p a) v w → LeadOn (making p bytes most ++ setting p a) v w
row_on [] None most a v w old can is led = setting_on [] a v w led
row_on [] (Some bytes) most a v w old can is led = absurd (cc)
row_on (n ∷ p) None most a v w old can is (u, does, led) = (u, does, λ b. refl, setting_on (n ∷ p) a u w led)
row_on (n ∷ p) (Some bytes) most a v w old can is (u, does, led) =
    (u, does, none_freed v (n ∷ p) bytes most (is (n ∷ p) ∙ can), setting_on (n ∷ p) a u w led)

-- ---- all rows

rows_on : CarriedFollow → PathsAreOrdered → (rs : List Packed) (v w : Volume) (old : Path → Option Node) → AllCanStand old rs → PackedRise rs
    → All (λ (r : Packed). KindsRise r.attributes) rs → ((q : Path) → tree v q ≡ old q) → Lead (commands rs) v w
    → LeadOn (commands rs) v w
rows_on follow order [] v w old can rise kinds is led = led
rows_on follow order (r ∷ rs) v w old can rise kinds is led =
    let parts = split_led (row_commands r) (commands rs) v w led in
    let here = All-head (λ (s : Packed). CanStand old s.path s.bytes) r rs can in
    both_on (row_commands r) (commands rs) v parts.middle w (row_on r.path r.bytes r.most r.attributes v parts.middle old here is parts.first)
    (rows_on follow order rs parts.middle w (with_row r old)
    (others_stand r rs old (lacking order r.path rs rise.0) (All-tail (λ (s : Packed). CanStand old s.path s.bytes) r rs can)) rise.1
    (All-tail (λ (s : Packed). KindsRise s.attributes) r rs kinds)
    (row_led follow r v parts.middle old here (All-head (λ (s : Packed). KindsRise s.attributes) r rs kinds) is parts.first)
    parts.rest)

pub all_on : CarriedFollow → PathsAreOrdered → (size count : ℕ) (limits : Limits) (rows : List Packed) (v : Volume) → ArePackable rows
    → Lead (commands rows) (empty_volume size count limits []) v → LeadOn (commands rows) (empty_volume size count limits []) v
all_on follow order size count limits [] v packable led = absurd packable.root
all_on follow order size count limits (r ∷ rs) v packable led =
    let later = subst (λ (p : Path). All (λ (s : Packed). path_precedes p s.path ≡ true) rs) packable.root.0 packable.rise.0 in
    rows_on follow order (r ∷ rs) (empty_volume size count limits []) v (tree (empty_volume size count limits []))
    (All-cons (λ (s : Packed). CanStand (tree (empty_volume size count limits [])) s.path s.bytes) r rs
    (root_stands size count limits r.path r.bytes packable.root.0 packable.root.1) (all_new_stand size count limits rs later))
    packable.rise packable.kinds (λ p. refl) led

-- ---- one of them

-- before a command, by it, and behind it
pub record IsParted (done : List Command) (next : Command) (later : List Command) (v w : Volume) : Type 0 where
  pub before : Volume
  pub led : Lead done v before
  pub left : Volume
  pub carried : CarriesOut next before left
  pub freed : (b : ℕ) → freed_uses before next b ≡ 0
  pub on : LeadOn later left w

pub parted : (done : List Command) (next : Command) (later : List Command) (v w : Volume) → LeadOn (done ++ next ∷ later) v w
    → IsParted done next later v w
parted [] next later v w (u, does, none, led) =
    record { before = v; led = refl; left = u; carried = does; freed = none; on = led }
parted (c ∷ cs) next later v w (u, does, none, led) =
    let rest = parted cs next later u w led in
    record {
      before = rest.before;
      led = (u, does, rest.led);
      left = rest.left;
      carried = rest.carried;
      freed = rest.freed;
      on = rest.on;
    }

-- ---- blocks stay in use

pub uses_more : UsesAfter → (c : Command) (v w : Volume) → CarriesOut c v w → ((b : ℕ) → freed_uses v c b ≡ 0) → (b : ℕ)
    → uses b w ≡ uses b v + times b (take (need v c) (free_blocks (grown c v)))
uses_more after c v w does none b =
    omega (
      arith,
      ap (uses b) does.is,
      clean_uses_all b (cut does.chosen (edited v c does.supplies)),
      after v c does.supplies does.chosen does.accepted does.pairs b,
      none b,
      least_taken v c does.supplies does.chosen does.pairs.enough does.ordered b,
    )

pub uses_on : UsesAfter → (cs : List Command) (v w : Volume) → LeadOn cs v w → (b : ℕ) → uses b v ≤ uses b w
uses_on after [] v w is b = omega (arith, ap (uses b) is)
uses_on after (c ∷ cs) v w (u, does, none, led) b = omega (arith, uses_more after c v u does none b, uses_on after cs u w led b)

pub sound_on : CarriedFollow → (cs : List Command) (v w : Volume) → LeadOn cs v w → IsSound v → IsSound w
sound_on follow [] v w is sound = subst IsSound (sym is) sound
sound_on follow (c ∷ cs) v w (u, does, none, led) sound = sound_on follow cs u w led (follow c v u does).sound
