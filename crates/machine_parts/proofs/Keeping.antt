-- The spare pools through a run: what stays, what is taken for a command that makes a pool, and what one that destroys a pool gives back.
use Rattle.std.proofs.Common.{◌≡◌, ◌≤◌, ◌<◌, ◌+◌, ◌∙◌, ◌⊎◌, inl, inr, ℕ, zero, suc, Bool, true, false, List, [], ◌∷◌, ◌++◌, length, refl, sym, ap, subst, arith}
use Rattle.std.specs.Prelude.{Option, Some, None, filter, slice_get, take, cond}
use Rattle.std.specs.List.{All}
use Rattle.std.proofs.lemmas.List.{length_push}
use Rattle.std.proofs.lemmas.List.Elements.{All-pop, All-push, All-weaker}
use Rattle.sched_model.specs.declared.config.SchedKind.{SchedKind}
use Rattle.sched_model.specs.declared.config.SchedKind.TheVariants as kinds
use Rattle.sched_model.specs.declared.machine.Machine.{Machine}
use Rattle.sched_model.specs.declared.work.CommandLine.{CommandLine}
use Rattle.sched_model.specs.Commands.{is_same_kind}
use Rattle.sched_model.specs.Places.{at_place, clear_at, put_at}
use Rattle.journal_core.specs.Parts.{Outline, ToolPart}
use Rattle.pool_core.specs.Seen.{Seen}
use Rattle.machine_parts.specs.Spares.{IsSpare, Shelf, Shelves, shelf_of, shelf_with, shelves_with}
use Rattle.machine_parts.specs.Counts.{AreSpares, HasSpares, configured_of, in_use_of, made_by, makes_at}

-- one more on both sides, where one more is counted by a test
one-more : (test : Bool) (x y : ℕ) → x ≡ suc y → cond test (suc x) x ≡ suc (cond test (suc y) y)
one-more true x y more = ap suc more
one-more false x y more = more

-- how many are in use after a pool came to an empty place, and after one went
in_use-put : (kind : SchedKind) (outline : Outline) (places : List (Option Outline)) (i : ℕ) → at_place places i ≡ None → i < length places → is_same_kind kind outline.kind ≡ true
    → in_use_of kind (put_at i outline places) ≡ suc (in_use_of kind places)
in_use-put kind outline [] i empty inside same = absurd (omega (arith, inside))
in_use-put kind outline (None ∷ places) zero empty inside same = ap (λ b. cond b (suc (in_use_of kind places)) (in_use_of kind places)) same
in_use-put kind outline (Some other ∷ places) zero empty inside same = absurd (cc)
in_use-put kind outline (None ∷ places) (suc i) empty inside same = in_use-put kind outline places i empty (omega (arith, inside)) same
in_use-put kind outline (Some other ∷ places) (suc i) empty inside same = one-more (is_same_kind kind other.kind) _ _ (in_use-put kind outline places i empty (omega (arith, inside)) same)

in_use-put_other : (kind : SchedKind) (outline : Outline) (places : List (Option Outline)) (i : ℕ) → at_place places i ≡ None → i < length places → is_same_kind kind outline.kind ≡ false
    → in_use_of kind (put_at i outline places) ≡ in_use_of kind places
in_use-put_other kind outline [] i empty inside other = refl
in_use-put_other kind outline (None ∷ places) zero empty inside other = ap (λ b. cond b (suc (in_use_of kind places)) (in_use_of kind places)) other
in_use-put_other kind outline (Some there ∷ places) zero empty inside other = absurd (cc)
in_use-put_other kind outline (None ∷ places) (suc i) empty inside other = in_use-put_other kind outline places i empty (omega (arith, inside)) other
in_use-put_other kind outline (Some there ∷ places) (suc i) empty inside other =
    ap (λ n. cond (is_same_kind kind there.kind) (suc n) n) (in_use-put_other kind outline places i empty (omega (arith, inside)) other)

in_use-clear : (kind : SchedKind) (outline : Outline) (places : List (Option Outline)) (i : ℕ) → at_place places i ≡ Some outline → is_same_kind kind outline.kind ≡ true
    → in_use_of kind places ≡ suc (in_use_of kind (clear_at i places))
in_use-clear kind outline [] i at same = absurd (cc)
in_use-clear kind outline (None ∷ places) zero at same = absurd (cc)
in_use-clear kind outline (Some there ∷ places) zero at same =
    let is : there ≡ outline = cc in
    ap (λ b. cond b (suc (in_use_of kind places)) (in_use_of kind places)) (ap (λ (o : Outline). is_same_kind kind o.kind) is ∙ same)
in_use-clear kind outline (None ∷ places) (suc i) at same = in_use-clear kind outline places i at same
in_use-clear kind outline (Some there ∷ places) (suc i) at same = one-more (is_same_kind kind there.kind) _ _ (in_use-clear kind outline places i at same)

in_use-clear_other : (kind : SchedKind) (outline : Outline) (places : List (Option Outline)) (i : ℕ) → at_place places i ≡ Some outline → is_same_kind kind outline.kind ≡ false
    → in_use_of kind (clear_at i places) ≡ in_use_of kind places
in_use-clear_other kind outline [] i at other = refl
in_use-clear_other kind outline (None ∷ places) zero at other = refl
in_use-clear_other kind outline (Some there ∷ places) zero at other =
    let is : there ≡ outline = cc in
    sym (ap (λ b. cond b (suc (in_use_of kind places)) (in_use_of kind places)) (ap (λ (o : Outline). is_same_kind kind o.kind) is ∙ other))
in_use-clear_other kind outline (None ∷ places) (suc i) at other = in_use-clear_other kind outline places i at other
in_use-clear_other kind outline (Some there ∷ places) (suc i) at other = ap (λ n. cond (is_same_kind kind there.kind) (suc n) n) (in_use-clear_other kind outline places i at other)

-- one command more makes no fewer pools, and one more where it makes one
made-grows : (kind : SchedKind) (lines : List CommandLine) (n : ℕ) → made_by kind (take n lines) ≤ made_by kind (take (suc n) lines)
made-grows kind [] zero = omega arith
made-grows kind [] (suc n) = omega arith
made-grows kind (l ∷ lines) zero = omega arith
made-grows kind (l ∷ lines) (suc n) = both (makes_at kind l) (made-grows kind lines n)
  where
    both : (b : Bool) → made_by kind (take n lines) ≤ made_by kind (take (suc n) lines)
        → length (cond b (l ∷ filter (makes_at kind) (take n lines)) (filter (makes_at kind) (take n lines))) ≤ length (cond b (l ∷ filter (makes_at kind) (take (suc n) lines)) (filter (makes_at kind) (take (suc n) lines)))
    both true rest = omega (arith, rest)
    both false rest = rest

made-next : (kind : SchedKind) (lines : List CommandLine) (n : ℕ) (line : CommandLine) → slice_get lines n ≡ Some line → makes_at kind line ≡ true → made_by kind (take (suc n) lines) ≡ suc (made_by kind (take n lines))
made-next kind [] n line at makes = absurd (cc)
made-next kind (l ∷ lines) zero line at makes =
    let same : l ≡ line = cc in
    ap (λ b. length (cond b (l ∷ filter (makes_at kind) (take 0 lines)) (filter (makes_at kind) (take 0 lines)))) (ap (makes_at kind) same ∙ makes)
made-next kind (l ∷ lines) (suc n) line at makes = both (makes_at kind l) (made-next kind lines n line at makes)
  where
    both : (b : Bool) → made_by kind (take (suc n) lines) ≡ suc (made_by kind (take n lines))
        → length (cond b (l ∷ filter (makes_at kind) (take (suc n) lines)) (filter (makes_at kind) (take (suc n) lines))) ≡ suc (length (cond b (l ∷ filter (makes_at kind) (take n lines)) (filter (makes_at kind) (take n lines))))
    both true rest = ap suc rest
    both false rest = rest

-- a scheduler is this one, or another whose shelf stays
pub kind-itself : (kind : SchedKind) → is_same_kind kind kind ≡ true
kind-itself kinds.Credit2 = refl
kind-itself kind = refl

pub shelf-filled : (kind : SchedKind) (seen : Seen) (shelves : Shelves) → shelf_of kind (shelves_with kind seen shelves) ≡ shelf_with seen (shelf_of kind shelves)
shelf-filled kinds.Credit2 seen shelves = refl
shelf-filled kind seen shelves = refl

pub record IsOther (other kind : SchedKind) : Type 0 where
  pub differs : is_same_kind other kind ≡ false
  pub stays : (seen : Seen) (shelves : Shelves) → shelf_of other (shelves_with kind seen shelves) ≡ shelf_of other shelves

pub this-or-other : (other kind : SchedKind) → (other ≡ kind) ⊎ IsOther other kind
this-or-other kinds.Credit2 kinds.Credit2 = inl refl
this-or-other kinds.Rtds kinds.Rtds = inl refl
this-or-other kinds.Arinc653 kinds.Arinc653 = inl refl
this-or-other kinds.Null kinds.Null = inl refl
this-or-other other kind = inr (record { differs = refl; stays = λ seen shelves. refl })

-- what a statement on all schedulers needs: this one, and each other one
each-kind : (Q : SchedKind → Type 0) (kind : SchedKind) → Q kind → ((other : SchedKind) → IsOther other kind → Q other) → (k : SchedKind) → Q k
each-kind Q kind here others k = elim (this-or-other k kind) [ inl same ↦ subst Q (sym same) here | inr other ↦ others k other ]

-- a spare pool is one at a later moment
pub spare-later : (m : Machine) (now later : ℕ) (kind : SchedKind) (seen : Seen) → now ≤ later → IsSpare m now kind seen → IsSpare m later kind seen
spare-later m now later kind seen past spare =
    let suits = spare.suits in
    record {
      idle = spare.idle;
      suits = record {
        domains = suits.domains;
        affinity = suits.affinity;
        cores = suits.cores;
        records = suits.records;
        granularity = suits.granularity;
        latest = (let early = suits.latest in omega (arith, early, past));
      };
    }

pub spares-later : (m : Machine) (now later : ℕ) (part : ToolPart) (shelves : Shelves) → now ≤ later → AreSpares m now part shelves → AreSpares m later part shelves
spares-later m now later part shelves past are = record {
  counts = are.counts;
  suit = λ kind. All-weaker (IsSpare m now kind) (IsSpare m later kind) (λ seen. spare-later m now later kind seen past) (shelf_of kind shelves).pools (are.suit kind);
}

-- as many are in use of the scheduler, and one command more is over
has-passed : (m : Machine) (kind : SchedKind) (part next : ToolPart) (shelf : Shelf) → in_use_of kind next.pools ≡ in_use_of kind part.pools → next.next_command ≡ suc part.next_command → HasSpares m kind part shelf → HasSpares m kind next shelf
has-passed m kind part next shelf in_use over has =
    let made = has.made in
    let grows = made-grows kind m.work.commands part.next_command in
    record {
      sum = ap (λ n. n + length shelf.pools) in_use ∙ has.sum;
      made = subst (λ n. in_use_of kind next.pools ≤ configured_of kind m.config.pools + made_by kind (take n m.work.commands)) (sym over) (omega (arith, in_use, made, grows));
      capacity = has.capacity;
    }

pub spares-passed : (m : Machine) (now : ℕ) (part next : ToolPart) (shelves : Shelves) → ((kind : SchedKind) → in_use_of kind next.pools ≡ in_use_of kind part.pools) → next.next_command ≡ suc part.next_command
    → AreSpares m now part shelves → AreSpares m now next shelves
spares-passed m now part next shelves in_use over are = record { counts = λ kind. has-passed m kind part next (shelf_of kind shelves) (in_use kind) over (are.counts kind); suit = are.suit }

-- what is on a shelf of which the last pool goes out, and on one to which a pool comes
all-left : (P : Seen → Type 0) (seen : Seen) (shelf : Shelf) → All P (shelf_with seen shelf).pools → All P shelf.pools
all-left P seen shelf all = (All-pop P (shelf.pools ++ seen ∷ []) shelf.pools (Some seen) refl all).0

-- the pool that was taken for a command that makes one
module _ (m : Machine) (now : ℕ) (kind : SchedKind) (part : ToolPart) (shelves left : Shelves) (seen : Seen) (taken : shelves ≡ shelves_with kind seen left) (are : AreSpares m now part shelves) where
  shelf-was : shelf_of kind shelves ≡ shelf_with seen (shelf_of kind left)
  shelf-was = ap (shelf_of kind) taken ∙ shelf-filled kind seen left

  module _ (next : ToolPart) (i : ℕ) (outline : Outline) (line : CommandLine) (empty : at_place part.pools i ≡ None) (inside : i < length part.pools) (is : outline.kind ≡ kind) (comes : next.pools ≡ put_at i outline part.pools)
      (at : slice_get m.work.commands part.next_command ≡ Some line) (makes : makes_at kind line ≡ true) (over : next.next_command ≡ suc part.next_command) where
    one-made : HasSpares m kind next (shelf_of kind left)
    one-made =
        let has : HasSpares m kind part (shelf_with seen (shelf_of kind left)) = subst (HasSpares m kind part) shelf-was (are.counts kind) in
        let in_use : in_use_of kind next.pools ≡ suc (in_use_of kind part.pools) = ap (in_use_of kind) comes ∙ in_use-put kind outline part.pools i empty inside (ap (is_same_kind kind) is ∙ kind-itself kind) in
        let sum = has.sum in
        let made = has.made in
        let count = length_push (shelf_of kind left).pools seen in
        let more = made-next kind m.work.commands part.next_command line at makes in
        record {
          sum = omega (arith, sum, count, in_use);
          made = subst (λ n. in_use_of kind next.pools ≤ configured_of kind m.config.pools + made_by kind (take n m.work.commands)) (sym over) (omega (arith, made, in_use, more));
          capacity = has.capacity;
        }

    no-other_made : (other : SchedKind) → IsOther other kind → HasSpares m other next (shelf_of other left)
    no-other_made other differs =
        has-passed m other part next (shelf_of other left)
        (ap (in_use_of other) comes ∙ in_use-put_other other outline part.pools i empty inside (ap (is_same_kind other) is ∙ differs.differs)) over
        (subst (HasSpares m other part) (ap (shelf_of other) taken ∙ differs.stays seen left) (are.counts other))

    pub spares-created : AreSpares m now next left
    spares-created = record {
      counts = each-kind (λ k. HasSpares m k next (shelf_of k left)) kind one-made no-other_made;
      suit = each-kind (λ k. All (IsSpare m now k) (shelf_of k left).pools) kind
          (all-left (IsSpare m now kind) seen (shelf_of kind left) (subst (λ (shelf : Shelf). All (IsSpare m now kind) shelf.pools) shelf-was (are.suit kind)))
          (λ other differs. subst (λ (shelf : Shelf). All (IsSpare m now other) shelf.pools) (ap (shelf_of other) taken ∙ differs.stays seen left) (are.suit other));
    }

-- the pool that a command destroyed is a spare one, for which there is room
module _ (m : Machine) (now : ℕ) (kind : SchedKind) (part : ToolPart) (shelves : Shelves) (are : AreSpares m now part shelves) (i : ℕ) (outline : Outline) (there : at_place part.pools i ≡ Some outline) (is : outline.kind ≡ kind) where
  was-in_use : in_use_of kind part.pools ≡ suc (in_use_of kind (clear_at i part.pools))
  was-in_use = in_use-clear kind outline part.pools i there (ap (is_same_kind kind) is ∙ kind-itself kind)

  pub spares-room : length (shelf_of kind shelves).pools < (shelf_of kind shelves).capacity
  spares-room =
      let has = are.counts kind in
      let sum = has.sum in
      let capacity = has.capacity in
      let was = was-in_use in
      omega (arith, sum, capacity, was)

  module _ (next : ToolPart) (seen : Seen) (spare : IsSpare m now kind seen) (goes : next.pools ≡ clear_at i part.pools) (over : next.next_command ≡ suc part.next_command) where
    one-back : HasSpares m kind next (shelf_with seen (shelf_of kind shelves))
    one-back =
        let has = are.counts kind in
        let in_use = ap (in_use_of kind) goes in
        let was = was-in_use in
        let sum = has.sum in
        let made = has.made in
        let count = length_push (shelf_of kind shelves).pools seen in
        let grows = made-grows kind m.work.commands part.next_command in
        record {
          sum = omega (arith, sum, count, in_use, was);
          made = subst (λ n. in_use_of kind next.pools ≤ configured_of kind m.config.pools + made_by kind (take n m.work.commands)) (sym over) (omega (arith, made, in_use, was, grows));
          capacity = has.capacity;
        }

    no-other_back : (other : SchedKind) → IsOther other kind → HasSpares m other next (shelf_of other (shelves_with kind seen shelves))
    no-other_back other differs =
        subst (HasSpares m other next) (sym (differs.stays seen shelves))
        (has-passed m other part next (shelf_of other shelves)
        (ap (in_use_of other) goes ∙ in_use-clear_other other outline part.pools i there (ap (is_same_kind other) is ∙ differs.differs)) over (are.counts other))

    pub spares-destroyed : AreSpares m now next (shelves_with kind seen shelves)
    spares-destroyed = record {
      counts = each-kind (λ k. HasSpares m k next (shelf_of k (shelves_with kind seen shelves))) kind (subst (HasSpares m kind next) (sym (shelf-filled kind seen shelves)) one-back) no-other_back;
      suit = each-kind (λ k. All (IsSpare m now k) (shelf_of k (shelves_with kind seen shelves)).pools) kind
          (subst (λ (shelf : Shelf). All (IsSpare m now kind) shelf.pools) (sym (shelf-filled kind seen shelves)) (All-push (IsSpare m now kind) (shelf_of kind shelves).pools seen (are.suit kind) spare))
          (λ other differs. subst (λ (shelf : Shelf). All (IsSpare m now other) shelf.pools) (sym (differs.stays seen shelves)) (are.suit other));
    }
