-- Pairs of an image filled, those of some links behind those of others.
use Rattle.std.proofs.Common.{◌≡◌, ◌≢◌, ℕ, ◌+◌, ◌<◌, ◌≤◌, ◌==◌, cond, List, [], ◌∷◌, ◌++◌, ap, sym, ◌∙◌, subst, arith, inl, inr, refl, Some}
use Rattle.std.specs.Prelude.{Contains, replicate}
use Rattle.std.proofs.lemmas.Bool.Decides.{nat_tests}
use Rattle.std.proofs.lemmas.List.{map-append}
use Rattle.std.proofs.lemmas.List.Elements.{Contains-append_cases, Contains-append_left, Contains-append_right}
use Rattle.std.proofs.lemmas.List.Sums.{sum_by-append, sum_by-cons}
use Rattle.lfs_block.specs.Disk.{Disk, IsDisk, block_of, put}
use Rattle.lfs_block.specs.PatchLaws.{BlockPut, BlockPutOther, IsDiskAs}
use Rattle.lfs_meta.specs.Attribute.{Attributes}
use Rattle.lfs_meta.specs.Entry.{StoredEntry}
use Rattle.lfs_meta.specs.Weighing.{weights}
use Rattle.lfs_meta.specs.LiveBlock.{stored_part_of}
use Rattle.lfs_pair.specs.Spelling.{part_tags}
use Rattle.lfs_pair.specs.Writing.{IsFirstBlock, log_written, part_in, stored_part}
use Rattle.lfs_command.specs.PartWritten.{FirstIsFilled}
use Rattle.lfs_fs.specs.Thread.{Link}
use Rattle.lfs_fs.specs.Uses.{times, pair_uses}
use Rattle.lfs_fs.proofs.ContainsLemmas.{contains_first}
use Rattle.lfs_fs.proofs.CountLemmas.{element_le}
use Rattle.lfs_law.specs.WrittenLinks.{link_part, stored_entries}
use Rattle.lfs_law.proofs.LinksAdded.{contains_one, first_used, second_used, times_append, times_cons, times_pair}
use Rattle.lfs_fs.specs.DiskBut.{IsDiskBut}
use Rattle.lfs_pack.specs.Filled.{CanFillPair, CanFillPairs, FillPairs, FillsPair, first_blocks, links_name}

-- ---- which blocks are other ones

firsts_both : (ls ms : List Link) → first_blocks (ls ++ ms) ≡ first_blocks ls ++ first_blocks ms
firsts_both ls ms = map-append (λ (l : Link). l.part.pair.0) ls ms

-- of one image after another
pub but_complete : (d m e : Disk) (all front behind : List Link) → all ≡ front ++ behind → IsDiskBut (first_blocks front) d m
    → IsDiskBut (first_blocks behind) m e → IsDiskBut (first_blocks all) d e
but_complete d m e all front behind is first later =
    let parted : first_blocks all ≡ first_blocks front ++ first_blocks behind = ap first_blocks is ∙ firsts_both front behind in
    record {
      disk = record {
        disk = later.disk.disk;
        size = later.disk.size ∙ first.disk.size;
        count = later.disk.count ∙ first.disk.count;
      };
      others = λ n none.
          let both : times n (first_blocks front) + times n (first_blocks behind) ≡ 0 =
          sym (times_append n (first_blocks front) (first_blocks behind)) ∙ sym (ap (times n) parted) ∙ none in
          later.others n (omega (arith, both)) ∙ first.others n (omega (arith, both));
    }

pub but_itself : (d : Disk) (blocks : List ℕ) → IsDisk d → IsDiskBut blocks d d
but_itself d blocks disk = record { disk = record { disk = disk; size = refl; count = refl }; others = λ n none. refl }

pub but_begun : (d e : Disk) (all front behind : List Link) → all ≡ front ++ behind → IsDiskBut (first_blocks front) d e
    → IsDiskBut (first_blocks all) d e
but_begun d e all front behind is first = but_complete d e e all front behind is first (but_itself e (first_blocks behind) first.disk.disk)

-- ---- blocks that pairs have in common

abbrev pub name_of : ℕ → Link → ℕ
name_of n l = pair_uses n l.part

names_both : (n : ℕ) (ls ms : List Link) → links_name n (ls ++ ms) ≡ links_name n ls + links_name n ms
names_both n ls ms = sum_by-append (name_of n) ls ms

pub firsts_within : (n : ℕ) (ls : List Link) → times n (first_blocks ls) ≤ links_name n ls
firsts_within n [] = omega arith
firsts_within n (l ∷ ls) =
    omega (
      arith,
      firsts_within n ls,
      times_cons n l.part.pair.0 (first_blocks ls),
      times_pair n l.part.pair,
      sum_by-cons (name_of n) l ls,
    )

-- a block of one pair is the first one of no other pair
no_later_first : (n : ℕ) (ls ms : List Link) (l : Link) → links_name n (ls ++ ms) ≤ 1 → Contains ls l → 1 ≤ name_of n l
    → times n (first_blocks ms) ≡ 0
no_later_first n ls ms l once there used =
    let here : name_of n l ≤ links_name n ls = element_le (name_of n) ls l there in
    omega (arith, here, used, names_both n ls ms, firsts_within n ms, once)

no_earlier_first : (n : ℕ) (ls ms : List Link) (l : Link) → links_name n (ls ++ ms) ≤ 1 → Contains ms l → 1 ≤ name_of n l
    → times n (first_blocks ls) ≡ 0
no_earlier_first n ls ms l once there used =
    let here : name_of n l ≤ links_name n ms = element_le (name_of n) ms l there in
    omega (arith, here, used, names_both n ls ms, firsts_within n ls, once)

module _ (bytes : List ℕ) (attributes : Attributes) where
  -- ---- what can be written

  pub one_can : (d : Disk) (l : Link) → CanFillPairs d bytes attributes (l ∷ []) → CanFillPair d bytes attributes l
  one_can d l can = can.each l (contains_first l [])

  can_front : (d : Disk) (ls ms : List Link) → CanFillPairs d bytes attributes (ls ++ ms) → CanFillPairs d bytes attributes ls
  can_front d ls ms can = record {
    once = λ n. omega (arith, can.once n, names_both n ls ms);
    each = λ l there. can.each l (Contains-append_left ls ms l there);
  }

  pub can_first : (d : Disk) (all front behind : List Link) → all ≡ front ++ behind → CanFillPairs d bytes attributes all
      → CanFillPairs d bytes attributes front
  can_first d all front behind is can = can_front d front behind (subst (CanFillPairs d bytes attributes) is can)

  still_can : (d m : Disk) (l : Link) → IsDiskAs d m → block_of m l.part.pair.1 ≡ block_of d l.part.pair.1
      → CanFillPair d bytes attributes l
      → CanFillPair m bytes attributes l
  still_can d m l same stays can = record {
    may = record {
      apart = can.may.apart;
      first = subst (λ (n : ℕ). l.part.pair.0 < n) (sym same.count) can.may.first;
      second = subst (λ (n : ℕ). l.part.pair.1 < n) (sym same.count) can.may.second;
      complete = can.may.complete;
      few = can.may.few;
      room = subst (λ (n : ℕ). weights (stored_entries bytes attributes l.part) + 40 ≤ n) (sym same.size) can.may.room;
      tail = can.may.tail;
    };
    none = can.none;
    erased = stays ∙ can.erased ∙ ap (λ (n : ℕ). replicate n 0xff) (sym same.size);
  }

  can_behind : (d m : Disk) (ls ms : List Link) → CanFillPairs d bytes attributes (ls ++ ms) → IsDiskBut (first_blocks ls) d m
      → CanFillPairs m bytes attributes ms
  can_behind d m ls ms can but = record {
    once = λ n. omega (arith, can.once n, names_both n ls ms);
    each = λ l there. still_can d m l but.disk
        (but.others l.part.pair.1 (no_earlier_first l.part.pair.1 ls ms l (can.once l.part.pair.1) there (second_used l.part.pair)))
        (can.each l (Contains-append_right ls ms l there));
  }

  pub can_later : (d m : Disk) (all front behind : List Link) → all ≡ front ++ behind → CanFillPairs d bytes attributes all
      → IsDiskBut (first_blocks front) d m
      → CanFillPairs m bytes attributes behind
  can_later d m all front behind is can but = can_behind d m front behind (subst (CanFillPairs d bytes attributes) is can) but

  -- ---- what is written

  still_fills : (m e : Disk) (l : Link) → e.size ≡ m.size → block_of e l.part.pair.0 ≡ block_of m l.part.pair.0
      → block_of e l.part.pair.1 ≡ block_of m l.part.pair.1
      → FillsPair m bytes attributes l → FillsPair e bytes attributes l
  still_fills m e l size first second fills = record {
    none = fills.none;
    part = ap (λ (b : List ℕ). part_in b (block_of e l.part.pair.1)) first ∙ ap (part_in (block_of m l.part.pair.0)) second ∙ fills.part;
    filled = subst (λ (n : ℕ). FirstIsFilled n (block_of e l.part.pair.0) (block_of e l.part.pair.1)) (sym size)
        (subst (λ (b : List ℕ). FirstIsFilled m.size b (block_of e l.part.pair.1)) (sym first)
        (subst (FirstIsFilled m.size (block_of m l.part.pair.0)) (sym second) fills.filled));
  }

  both_filled : (d m e : Disk) (ls ms : List Link) → CanFillPairs d bytes attributes (ls ++ ms) → FillPairs d m bytes attributes ls
      → FillPairs m e bytes attributes ms
      → FillPairs d e bytes attributes (ls ++ ms)
  both_filled d m e ls ms can first later = record {
    but = but_complete d m e (ls ++ ms) ls ms refl first.but later.but;
    each = λ l there. elim (Contains-append_cases ls ms l there) [
      | inl before ↦
          (let stays = λ (n : ℕ) (used : 1 ≤ name_of n l). later.but.others n (no_later_first n ls ms l (can.once n) before used) in
          still_fills m e l later.but.disk.size (stays l.part.pair.0 (first_used l.part.pair)) (stays l.part.pair.1 (second_used l.part.pair))
          (first.each l before))
      | inr behind ↦ later.each l behind
    ];
  }

  pub filled_complete : (d m e : Disk) (all front behind : List Link) → all ≡ front ++ behind → CanFillPairs d bytes attributes all
      → FillPairs d m bytes attributes front
      → FillPairs m e bytes attributes behind → FillPairs d e bytes attributes all
  filled_complete d m e all front behind is can first later =
      subst (FillPairs d e bytes attributes) (sym is)
      (both_filled d m e front behind (subst (CanFillPairs d bytes attributes) is can) first later)

  -- ---- one pair

  not_here : (n m : ℕ) → times n (m ∷ []) ≡ 0 → n ≢ m
  not_here n m none same =
      let one : cond {A = ℕ} (m == n) 1 0 ≡ 1 = grind (arith, nat_tests) in
      omega (arith, one, none, times_cons n m [])

  one_filled : BlockPut → BlockPutOther → (d : Disk) (l : Link) (block : List ℕ) → IsDisk d → CanFillPair d bytes attributes l
      → IsFirstBlock d.size (link_part bytes attributes l (replicate 12 0)) block → IsDiskAs d (put l.part.pair.0 block d)
      → FillPairs d (put l.part.pair.0 block d) bytes attributes (l ∷ [])
  one_filled here other d l block disk can first same = record {
    but = record {
      disk = same;
      others = λ n none. other d l.part.pair.0 n block disk can.may.first (not_here n l.part.pair.0 none) first.len;
    };
    each = λ m there. subst (FillsPair (put l.part.pair.0 block d) bytes attributes) (sym (contains_one l m there)) (record {
      none = can.none;
      part = held;
      filled = record {
        part = link_part bytes attributes l (replicate 12 0);
        holds = held;
        written = front ∙ first.bytes ∙ ap (λ (n : ℕ). log_written 1 (part_tags (link_part bytes attributes l (replicate 12 0)))
            (replicate n 0xff)) (sym same.size);
        erased = behind ∙ ap (λ (n : ℕ). replicate n 0xff) (sym same.size);
      };
    });
  }
    where
      front : block_of (put l.part.pair.0 block d) l.part.pair.0 ≡ block
      front = here d l.part.pair.0 block disk can.may.first first.len

      behind : block_of (put l.part.pair.0 block d) l.part.pair.1 ≡ replicate d.size 0xff
      behind = other d l.part.pair.0 l.part.pair.1 block disk can.may.first (λ is. can.may.apart (sym is)) first.len ∙ can.erased

      held : stored_part_of (put l.part.pair.0 block d) l.part.pair ≡ Some (link_part bytes attributes l (replicate 12 0))
      held =
          ap (λ (b : List ℕ). part_in b (block_of (put l.part.pair.0 block d) l.part.pair.1)) front
          ∙ ap (part_in block) behind ∙ first.before_erased

  -- the same, as it is written
  pub pair_filled : BlockPut → BlockPutOther → (d e : Disk) (l : Link) (n size : ℕ) (es : List StoredEntry) (block : List ℕ) → IsDisk d
      → CanFillPair d bytes attributes l → IsFirstBlock size (stored_part es l.tail (replicate 12 0)) block
      → n ≡ l.part.pair.0 → size ≡ d.size → es ≡ stored_entries bytes attributes l.part → e ≡ put n block d → IsDiskAs d e
      → FillPairs d e bytes attributes (l ∷ [])
  pair_filled here other d e l n size es block disk can first number same_size entries is same =
      let put_is : e ≡ put l.part.pair.0 block d = is ∙ ap (λ (m : ℕ). put m block d) number in
      subst (λ (x : Disk). FillPairs d x bytes attributes (l ∷ [])) (sym put_is)
      (one_filled here other d l block disk can
      (subst (λ (k : ℕ). IsFirstBlock k (link_part bytes attributes l (replicate 12 0)) block) same_size
      (subst (λ (xs : List StoredEntry). IsFirstBlock size (stored_part xs l.tail (replicate 12 0)) block) entries first))
      (subst (IsDiskAs d) put_is same))

  -- no links
  pub none_filled : (d : Disk) → IsDisk d → FillPairs d d bytes attributes []
  none_filled d disk = record { but = but_itself d [] disk; each = λ l there. let no : ⊥ = omega (arith, there.1) in absurd no }
