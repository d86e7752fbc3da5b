-- What callers see, with one item more, with one less, and with one moved.
use Rattle.std.proofs.Common.{◌≡◌, ℕ, ◌-◌, ◌<◌, List, [], ◌∷◌, ◌++◌, length, map, set, Bool, true, false, refl, sym, ◌∙◌, ap, subst, inl, inr, arith}
use Rattle.std.specs.Prelude.{◌==◌, ◌&&◌, ◌||◌, not, if◌then◌else◌, Option, Some, None, nat_lt, pos}
use Rattle.std.proofs.lemmas.Bool.{cases_eq, cases_lt, cases_Bool, eq-eqb, ne_eqb, lt-ltb, le-ltb}
use Rattle.std.proofs.lemmas.List.{get_or-set_same, get_or-set_other}
use Rattle.sched_base.specs.declared.UnitId.{UnitId}
use Rattle.unit_places.specs.Places.{number_of}
use Rattle.sched_base.proofs.Bools.{or_left, or_right}
use Rattle.unit_ring.specs.declared.Node.{Node}
use Rattle.unit_ring.specs.Lists as l
use Rattle.unit_ring.specs.Lists.{Item, item, has_node}
use Rattle.arrival_queue.specs.declared.key.Key.{Key}
use Rattle.arrival_queue.specs.Queues.{Queued, queued_unit, is_lesser_key, goes_before, put_first, has_unit, rank_in, closed_up}
use Rattle.arrival_queue.specs.Tables.{Apart, Tabled, has_number, key_at, arrival_at, rank, shown_unit, comes_before, first_node}
use Rattle.arrival_queue.proofs.Splits.{not_same}
use Rattle.arrival_queue.proofs.Ranks.{arrival-set, rank-out, rank-test}
use Rattle.sched_base.specs.Numbers.{one_if}

key-set : (keys : List Key) (n m : ℕ) (key : Key) → (m == n) ≡ false → key_at (set keys n key) m ≡ key_at keys m
key-set keys n m key other = get_or-set_other keys n m key (record { first = pos 0; second = 0 }) (not_same m n other)

-- an item whose tables are not written, and whose rank stays
shown_kept : (keys : List Key) (arrivals : List ℕ) (n : ℕ) (key : Key) (a : ℕ) (all after : List Item) (x : Item)
    → (x.node == n) ≡ false
    → rank (set arrivals n a) after (arrival_at arrivals x.node) ≡ rank arrivals all (arrival_at arrivals x.node)
    → shown_unit (set keys n key) (set arrivals n a) after x ≡ shown_unit keys arrivals all x
shown_kept keys arrivals n key a all after x other same =
    ap (λ (k : Key). queued_unit x.unit k (rank (set arrivals n a) after (arrival_at (set arrivals n a) x.node))) (key-set keys n x.node key other)
    ∙ ap (λ (m : ℕ). queued_unit x.unit (key_at keys x.node) (rank (set arrivals n a) after m)) (arrival-set arrivals n a x.node other)
    ∙ ap (queued_unit x.unit (key_at keys x.node)) same

pub map_kept : (keys : List Key) (arrivals : List ℕ) (n : ℕ) (key : Key) (a places next : ℕ) (all after xs : List Item)
    → Tabled places next arrivals xs → has_node n xs ≡ false
    → ((b : ℕ) → b < next → rank (set arrivals n a) after b ≡ rank arrivals all b)
    → map (shown_unit (set keys n key) (set arrivals n a) after) xs ≡ map (shown_unit keys arrivals all) xs
map_kept keys arrivals n key a places next all after [] t none same = refl
map_kept keys arrivals n key a places next all after (x ∷ xs) t none same =
    ap (λ (e : Queued). e ∷ map (shown_unit (set keys n key) (set arrivals n a) after) xs)
    (shown_kept keys arrivals n key a all after x (or_left (x.node == n) (has_node n xs) none) (same (arrival_at arrivals x.node) t.1))
    ∙ ap (λ (es : List Queued). shown_unit keys arrivals all x ∷ es) (map_kept keys arrivals n key a places next all after xs t.3 (or_right (x.node == n) (has_node n xs) none) same)

-- the item that is written
pub shown_new : (keys : List Key) (arrivals : List ℕ) (n : ℕ) (u : UnitId) (key : Key) (a r : ℕ) (after : List Item)
    → n < length keys → n < length arrivals → rank (set arrivals n a) after a ≡ r
    → shown_unit (set keys n key) (set arrivals n a) after (item n u) ≡ queued_unit u key r
shown_new keys arrivals n u key a r after low low_a is =
    ap (λ (k : Key). queued_unit u k (rank (set arrivals n a) after (arrival_at (set arrivals n a) n))) (get_or-set_same keys n key (record { first = pos 0; second = 0 }) low)
    ∙ ap (λ (m : ℕ). queued_unit u key (rank (set arrivals n a) after m)) (get_or-set_same arrivals n a 0 low_a)
    ∙ ap (queued_unit u key) is

-- two ways to see each item agree, and so do the tests
abbrev pub Alike : (Item → Queued) → (Item → Queued) → (Item → Bool) → (Queued → Bool) → List Item → Type 0
Alike f g p q [] = Unit {0}
Alike f g p q (x ∷ xs) = (f x ≡ g x) × (q (g x) ≡ p x) × Alike f g p q xs

pub map_alike : (f g : Item → Queued) (p : Item → Bool) (q : Queued → Bool) (xs : List Item) → Alike f g p q xs → map f xs ≡ map g xs
map_alike f g p q [] alike = refl
map_alike f g p q (x ∷ xs) alike =
    ap (λ (y : Queued). y ∷ map f xs) alike.0 ∙ ap (λ (ys : List Queued). g x ∷ ys) (map_alike f g p q xs alike.2)

pub map_put : (f g : Item → Queued) (p : Item → Bool) (q : Queued → Bool) (new : Item) (e : Queued) (xs : List Item)
    → f new ≡ e → Alike f g p q xs → map f (put_first p new xs) ≡ put_first q e (map g xs)
map_put f g p q new e [] mine alike = ap (λ (x : Queued). x ∷ []) mine
map_put f g p q new e (x ∷ xs) mine alike =
    let rest = map_put f g p q new e xs mine alike.2 in
    let same : map f xs ≡ map g xs = map_alike f g p q xs alike.2 in
    let both : map f (if p x then new ∷ x ∷ xs else x ∷ put_first p new xs) ≡ (if p x then e ∷ g x ∷ map g xs else g x ∷ put_first q e (map g xs)) =
    elim (p x) as (λ t. map f (if t then new ∷ x ∷ xs else x ∷ put_first p new xs) ≡ (if t then e ∷ g x ∷ map g xs else g x ∷ put_first q e (map g xs))) [
      | true ↦ ap (λ (y : Queued). y ∷ f x ∷ map f xs) mine ∙ ap (λ (y : Queued). e ∷ y ∷ map f xs) alike.0 ∙ ap (λ (ys : List Queued). e ∷ g x ∷ ys) same
      | false ↦ ap (λ (y : Queued). y ∷ map f (put_first p new xs)) alike.0 ∙ ap (λ (ys : List Queued). g x ∷ ys) rest
    ]
    in
    both ∙ sym (ap (λ (t : Bool). if t then e ∷ g x ∷ map g xs else g x ∷ put_first q e (map g xs)) alike.1)

-- the items of a list before and after one is written, where ranks and tests stay
pub alike : (keys : List Key) (arrivals : List ℕ) (n : ℕ) (u : UnitId) (key : Key) (a r places next : ℕ) (all after xs : List Item)
    → Tabled places next arrivals xs → has_node n xs ≡ false
    → ((b : ℕ) → b < next → rank (set arrivals n a) after b ≡ rank arrivals all b)
    → ((b : ℕ) → b < next → nat_lt r (rank arrivals all b) ≡ nat_lt a b)
    → Alike (shown_unit (set keys n key) (set arrivals n a) after) (shown_unit keys arrivals all) (comes_before keys arrivals key a) (goes_before (queued_unit u key r)) xs
alike keys arrivals n u key a r places next all after [] t none same tests = tt
alike keys arrivals n u key a r places next all after (x ∷ xs) t none same tests = (
  shown_kept keys arrivals n key a all after x (or_left (x.node == n) (has_node n xs) none) (same (arrival_at arrivals x.node) t.1),
  ap (λ (test : Bool). is_lesser_key key (key_at keys x.node) || not (is_lesser_key (key_at keys x.node) key) && test) (tests (arrival_at arrivals x.node) t.1),
  alike keys arrivals n u key a r places next all after xs t.3 (or_right (x.node == n) (has_node n xs) none) same tests,
)

-- with one item less the later ones move up
pub closed_rank : (arrivals : List ℕ) (lft rgt : List Item) (old : Item) (b : ℕ)
    → rank arrivals (lft ++ rgt) b ≡ (if nat_lt (rank arrivals (lft ++ old ∷ rgt) (arrival_at arrivals old.node)) (rank arrivals (lft ++ old ∷ rgt) b) then rank arrivals (lft ++ old ∷ rgt) b - 1 else rank arrivals (lft ++ old ∷ rgt) b)
closed_rank arrivals lft rgt old b =
    let all = lft ++ old ∷ rgt in
    let a = arrival_at arrivals old.node in
    let more = rank-out arrivals lft rgt old b in
    let test = rank-test arrivals lft rgt old b in
    elim (cases_lt a b) [
      | inl less ↦
          let is_less_here : nat_lt (rank arrivals all a) (rank arrivals all b) ≡ true = test ∙ lt-ltb a b less in
          let one : one_if (nat_lt a b) ≡ 1 = ap one_if (lt-ltb a b less) in
          let count : rank arrivals (lft ++ rgt) b ≡ rank arrivals all b - 1 = omega (arith, more, one) in
          count ∙ sym (ap (λ (t : Bool). if t then rank arrivals all b - 1 else rank arrivals all b) is_less_here)
      | inr later ↦
          let is_not : nat_lt (rank arrivals all a) (rank arrivals all b) ≡ false = test ∙ le-ltb a b later in
          let zero_more : one_if (nat_lt a b) ≡ 0 = ap one_if (le-ltb a b later) in
          let count : rank arrivals (lft ++ rgt) b ≡ rank arrivals all b = omega (arith, more, zero_more) in
          count ∙ sym (ap (λ (t : Bool). if t then rank arrivals all b - 1 else rank arrivals all b) is_not)
    ]

pub map_closed : (keys : List Key) (arrivals : List ℕ) (lft rgt xs : List Item) (old : Item)
    → map (shown_unit keys arrivals (lft ++ rgt)) xs ≡ map (closed_up (rank arrivals (lft ++ old ∷ rgt) (arrival_at arrivals old.node))) (map (shown_unit keys arrivals (lft ++ old ∷ rgt)) xs)
map_closed keys arrivals lft rgt [] old = refl
map_closed keys arrivals lft rgt (x ∷ xs) old =
    ap (λ (r : ℕ). queued_unit x.unit (key_at keys x.node) r ∷ map (shown_unit keys arrivals (lft ++ rgt)) xs) (closed_rank arrivals lft rgt old (arrival_at arrivals x.node))
    ∙ ap (λ (es : List Queued). closed_up (rank arrivals (lft ++ old ∷ rgt) (arrival_at arrivals old.node)) (shown_unit keys arrivals (lft ++ old ∷ rgt) x) ∷ es) (map_closed keys arrivals lft rgt xs old)

-- units of the shown items
pub has_unit-shown : (u : UnitId) (keys : List Key) (arrivals : List ℕ) (all xs : List Item)
    → has_unit u (map (shown_unit keys arrivals all) xs) ≡ has_number (number_of u) xs
has_unit-shown u keys arrivals all [] = refl
has_unit-shown u keys arrivals all (x ∷ xs) = ap (λ (t : Bool). number_of x.unit == number_of u || t) (has_unit-shown u keys arrivals all xs)

pub rank_in-split : (u : UnitId) (keys : List Key) (arrivals : List ℕ) (all lft rgt : List Item) (old : Item)
    → number_of old.unit ≡ number_of u → has_number (number_of u) (lft ++ rgt) ≡ false
    → rank_in u (map (shown_unit keys arrivals all) (lft ++ old ∷ rgt)) ≡ rank arrivals all (arrival_at arrivals old.node)
rank_in-split u keys arrivals all [] rgt old is none =
    ap (λ (t : Bool). if t then rank arrivals all (arrival_at arrivals old.node) else rank_in u (map (shown_unit keys arrivals all) rgt)) (eq-eqb (number_of old.unit) (number_of u) is)
rank_in-split u keys arrivals all (x ∷ lft) rgt old is none =
    ap (λ (t : Bool). if t then rank arrivals all (arrival_at arrivals x.node) else rank_in u (map (shown_unit keys arrivals all) (lft ++ old ∷ rgt))) (or_left (number_of x.unit == number_of u) (has_number (number_of u) (lft ++ rgt)) none)
    ∙ rank_in-split u keys arrivals all lft rgt old is (or_right (number_of x.unit == number_of u) (has_number (number_of u) (lft ++ rgt)) none)

-- nodes of the ring's lists
pub without_in-none : (n : ℕ) (xs : List Item) → has_node n xs ≡ false → l.without_in n xs ≡ xs
without_in-none n [] none = refl
without_in-none n (x ∷ xs) none =
    ap (λ (t : Bool). if t then l.without_in n xs else x ∷ l.without_in n xs) (or_left (x.node == n) (has_node n xs) none)
    ∙ ap (λ (ys : List Item). x ∷ ys) (without_in-none n xs (or_right (x.node == n) (has_node n xs) none))

pub without_in-split : (n : ℕ) (lft rgt : List Item) (old : Item) → old.node ≡ n → has_node n (lft ++ rgt) ≡ false
    → l.without_in n (lft ++ old ∷ rgt) ≡ lft ++ rgt
without_in-split n [] rgt old is none =
    ap (λ (t : Bool). if t then l.without_in n rgt else old ∷ l.without_in n rgt) (eq-eqb old.node n is) ∙ without_in-none n rgt none
without_in-split n (x ∷ lft) rgt old is none =
    ap (λ (t : Bool). if t then l.without_in n (lft ++ old ∷ rgt) else x ∷ l.without_in n (lft ++ old ∷ rgt)) (or_left (x.node == n) (has_node n (lft ++ rgt)) none)
    ∙ ap (λ (ys : List Item). x ∷ ys) (without_in-split n lft rgt old is (or_right (x.node == n) (has_node n (lft ++ rgt)) none))

pub put_before_in-none : (at : ℕ) (new : Item) (xs : List Item) → has_node at xs ≡ false → l.put_before_in at new xs ≡ xs
put_before_in-none at new [] none = refl
put_before_in-none at new (x ∷ xs) none =
    ap (λ (t : Bool). if t then new ∷ x ∷ l.put_before_in at new xs else x ∷ l.put_before_in at new xs) (or_left (x.node == at) (has_node at xs) none)
    ∙ ap (λ (ys : List Item). x ∷ ys) (put_before_in-none at new xs (or_right (x.node == at) (has_node at xs) none))

-- a node that a search answers
pub record FoundNode (p : Item → Bool) (new : Item) (at : ℕ) (xs : List Item) : Type 0 where
  pub has : has_node at xs ≡ true
  pub put : l.put_before_in at new xs ≡ put_first p new xs

pub found_node : (p : Item → Bool) (new : Item) (at : Node) (xs : List Item) → Apart xs → first_node p xs ≡ Some at → FoundNode p new at.0 xs
found_node p new at [] apart e = absurd (cc)
found_node p new at (x ∷ xs) apart e =
    elim (cases_Bool (p x)) [
      | inl passes ↦
          let here : Some (record { 0 = x.node }) ≡ Some at = sym (ap (λ (t : Bool). if t then Some (record { 0 = x.node }) else first_node p xs) passes) ∙ e in
          let is : x.node ≡ at.0 = ap (λ (o : Option Node). elim o as (λ _. ℕ) [ None ↦ 0 | Some n ↦ n.0 ]) here in
          let same = eq-eqb x.node at.0 is in
          record {
            has = ap (λ (t : Bool). t || has_node at.0 xs) same;
            put = ap (λ (t : Bool). if t then new ∷ x ∷ l.put_before_in at.0 new xs else x ∷ l.put_before_in at.0 new xs) same
                ∙ ap (λ (ys : List Item). new ∷ x ∷ ys) (put_before_in-none at.0 new xs (subst (λ (m : ℕ). has_node m xs ≡ false) is apart.0))
                ∙ sym (ap (λ (t : Bool). if t then new ∷ x ∷ xs else x ∷ put_first p new xs) passes);
          }
      | inr fails ↦
          let rest : FoundNode p new at.0 xs = found_node p new at xs apart.2 (sym (ap (λ (t : Bool). if t then Some (record { 0 = x.node }) else first_node p xs) fails) ∙ e) in
          let other : (x.node == at.0) ≡ false = ne_eqb x.node at.0 (λ (same : x.node ≡ at.0).
          let none : has_node at.0 xs ≡ false = subst (λ (m : ℕ). has_node m xs ≡ false) same apart.0 in
          let has = rest.has in absurd (cc))
          in
          record {
            has = ap (λ (t : Bool). t || has_node at.0 xs) other ∙ rest.has;
            put = ap (λ (t : Bool). if t then new ∷ x ∷ l.put_before_in at.0 new xs else x ∷ l.put_before_in at.0 new xs) other
                ∙ ap (λ (ys : List Item). x ∷ ys) rest.put
                ∙ sym (ap (λ (t : Bool). if t then new ∷ x ∷ xs else x ∷ put_first p new xs) fails);
          }
    ]

pub found_none : (p : Item → Bool) (new : Item) (xs : List Item) → first_node p xs ≡ None → xs ++ new ∷ [] ≡ put_first p new xs
found_none p new [] e = refl
found_none p new (x ∷ xs) e =
    elim (cases_Bool (p x)) [
      | inl passes ↦
          let here : Some (record { 0 = x.node }) ≡ None = sym (ap (λ (t : Bool). if t then Some (record { 0 = x.node }) else first_node p xs) passes) ∙ e in
          absurd (cc)
      | inr fails ↦
          ap (λ (ys : List Item). x ∷ ys) (found_none p new xs (sym (ap (λ (t : Bool). if t then Some (record { 0 = x.node }) else first_node p xs) fails) ∙ e))
          ∙ sym (ap (λ (t : Bool). if t then new ∷ x ∷ xs else x ∷ put_first p new xs) fails)
    ]

-- where an item is put, the list falls into what is before it and what is after it
pub record PutSplit (p : Item → Bool) (new : Item) (xs : List Item) : Type 0 where
  pub lft : List Item
  pub rgt : List Item
  pub was : xs ≡ lft ++ rgt
  pub is : put_first p new xs ≡ lft ++ new ∷ rgt

pub put_split : (p : Item → Bool) (new : Item) (xs : List Item) → PutSplit p new xs
put_split p new [] = record { lft = []; rgt = []; was = refl; is = refl }
put_split p new (x ∷ xs) =
    elim (cases_Bool (p x)) [
      | inl passes ↦
          record { lft = []; rgt = x ∷ xs; was = refl; is = ap (λ (t : Bool). if t then new ∷ x ∷ xs else x ∷ put_first p new xs) passes }
      | inr fails ↦
          let rest = put_split p new xs in
          record {
            lft = x ∷ rest.lft;
            rgt = rest.rgt;
            was = ap (λ (ys : List Item). x ∷ ys) rest.was;
            is = ap (λ (t : Bool). if t then new ∷ x ∷ xs else x ∷ put_first p new xs) fails ∙ ap (λ (ys : List Item). x ∷ ys) rest.is;
          }
    ]

-- where a unit stands, likewise
pub record UnitSplit (k : ℕ) (xs : List Item) : Type 0 where
  pub lft : List Item
  pub rgt : List Item
  pub x : Item
  pub is : xs ≡ lft ++ x ∷ rgt
  pub number : number_of x.unit ≡ k

pub unit_split : (k : ℕ) (xs : List Item) → has_number k xs ≡ true → UnitSplit k xs
unit_split k [] e = absurd (cc)
unit_split k (x ∷ xs) e =
    elim (cases_eq (number_of x.unit) k) [
      | inl is ↦ record { lft = []; rgt = xs; x = x; is = refl; number = is }
      | inr other ↦
          let rest = unit_split k xs (sym (ap (λ (t : Bool). t || has_number k xs) (ne_eqb (number_of x.unit) k other)) ∙ e) in
          record { lft = x ∷ rest.lft; rgt = rest.rgt; x = rest.x; is = ap (λ (ys : List Item). x ∷ ys) rest.is; number = rest.number }
    ]
