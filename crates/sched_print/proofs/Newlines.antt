-- No newline stands in the text of an entry.
use Rattle.std.proofs.Common.{◌≡◌, ◌<◌, ◌%◌, ◌/◌, ◌==◌, ℕ, zero, suc, Bool, true, false, not, ◌&&◌, cond, List, [], ◌∷◌, ◌++◌, arith, refl}
use Rattle.std.specs.Prelude.{pos, negsuc, Some, None, Ok, Err, decimal}
use Rattle.std.specs.List.{list_all}
use Rattle.std.specs.Fmt.{digits, digits_onto, digit_glyph}
use Rattle.std.proofs.lemmas.List.Folds.{list_all-append}
use Rattle.std.proofs.lemmas.Bool.Decides.{nat_tests}
use Rattle.sched_model.specs.declared.config.SchedKind.TheVariants as kind
use Rattle.sched_model.specs.declared.event.Event.{Event}
use Rattle.sched_model.specs.declared.event.Event.TheVariants as event
use Rattle.sched_model.specs.declared.event.Refusal.TheVariants as refusal
use Rattle.sched_model.specs.declared.event.Reply.TheVariants as reply
use Rattle.sched_model.specs.declared.event.Param.TheVariants as param
use Rattle.sched_model.specs.declared.event.Entry.{Entry}
use Rattle.sched_print.specs.Line.{words, with_event}

abbrev pub is_inner : ℕ → Bool
is_inner b = not (b == 10)

-- no newline stands in the bytes
abbrev pub has_none : List ℕ → Bool
has_none bytes = list_all is_inner bytes

is_inner-digit : (d : ℕ) → d < 10 → is_inner (digit_glyph false d) ≡ true
is_inner-digit d small = grind (arith, nat_tests)

has_none-digits_onto : (k n : ℕ) (acc : List ℕ) → has_none acc ≡ true → has_none (digits_onto k 10 false n acc) ≡ true
has_none-digits_onto zero n acc h = h
has_none-digits_onto (suc k) n acc h =
    let small : n % 10 < 10 = omega arith in
    let here : has_none (digit_glyph false (n % 10) ∷ acc) ≡ true = rw (is_inner-digit (n % 10) small) h in
    (elim (n / 10 == 0) as (λ test. has_none (cond test (digit_glyph false (n % 10) ∷ acc) (digits_onto k 10 false (n / 10) (digit_glyph false (n % 10) ∷ acc))) ≡ true)
    [ true ↦ here | false ↦ has_none-digits_onto k (n / 10) (digit_glyph false (n % 10) ∷ acc) here ])

has_none-decimal : (n : ℕ) → has_none (decimal n) ≡ true
unfolding digits
has_none-decimal n = has_none-digits_onto 64 n [] refl

has_none-append : (a b : List ℕ) → has_none (a ++ b) ≡ (has_none a && has_none b)
has_none-append a b = list_all-append is_inner a b

has_none_at : (front : List ℕ) (what : Event) → has_none front ≡ true → has_none (with_event front what) ≡ true
has_none_at front (event.Stall p until) h = simp (has_none-append, has_none-decimal, h)
has_none_at front (event.Xl k (Ok reply.Done)) h = simp (has_none-append, has_none-decimal, h)
has_none_at front (event.Xl k (Ok (reply.Pools pools free))) h = simp (has_none-append, has_none-decimal, h)
has_none_at front (event.Xl k (Ok (reply.Pool i kind.Credit2 cpus domains))) h = simp (has_none-append, has_none-decimal, h)
has_none_at front (event.Xl k (Ok (reply.Pool i kind.Rtds cpus domains))) h = simp (has_none-append, has_none-decimal, h)
has_none_at front (event.Xl k (Ok (reply.Pool i kind.Arinc653 cpus domains))) h = simp (has_none-append, has_none-decimal, h)
has_none_at front (event.Xl k (Ok (reply.Pool i kind.Null cpus domains))) h = simp (has_none-append, has_none-decimal, h)
has_none_at front (event.Xl k (Ok (reply.Weight weight cap))) h = simp (has_none-append, has_none-decimal, h)
has_none_at front (event.Xl k (Ok (reply.Rate limit))) h = simp (has_none-append, has_none-decimal, h)
has_none_at front (event.Xl k (Ok (reply.Rtds period budget false))) h = simp (has_none-append, has_none-decimal, h)
has_none_at front (event.Xl k (Ok (reply.Rtds period budget true))) h = simp (has_none-append, has_none-decimal, h)
has_none_at front (event.Xl k (Err (refusal.Syntax place))) h = simp (has_none-append, has_none-decimal, h)
has_none_at front (event.Xl k (Err refusal.NoPool)) h = simp (has_none-append, has_none-decimal, h)
has_none_at front (event.Xl k (Err (refusal.NameTaken i))) h = simp (has_none-append, has_none-decimal, h)
has_none_at front (event.Xl k (Err refusal.NoDomain)) h = simp (has_none-append, has_none-decimal, h)
has_none_at front (event.Xl k (Err (refusal.NoCpu cpu))) h = simp (has_none-append, has_none-decimal, h)
has_none_at front (event.Xl k (Err (refusal.CpuTaken cpu i))) h = simp (has_none-append, has_none-decimal, h)
has_none_at front (event.Xl k (Err (refusal.CpuElsewhere cpu))) h = simp (has_none-append, has_none-decimal, h)
has_none_at front (event.Xl k (Err (refusal.LastCpu i d))) h = simp (has_none-append, has_none-decimal, h)
has_none_at front (event.Xl k (Err (refusal.PoolHolds i cpus domains))) h = simp (has_none-append, has_none-decimal, h)
has_none_at front (event.Xl k (Err refusal.PoolZero)) h = simp (has_none-append, has_none-decimal, h)
has_none_at front (event.Xl k (Err (refusal.WrongSched i kind.Credit2))) h = simp (has_none-append, has_none-decimal, h)
has_none_at front (event.Xl k (Err (refusal.WrongSched i kind.Rtds))) h = simp (has_none-append, has_none-decimal, h)
has_none_at front (event.Xl k (Err (refusal.WrongSched i kind.Arinc653))) h = simp (has_none-append, has_none-decimal, h)
has_none_at front (event.Xl k (Err (refusal.WrongSched i kind.Null))) h = simp (has_none-append, has_none-decimal, h)
has_none_at front (event.Xl k (Err (refusal.Range param.Weight n))) h = simp (has_none-append, has_none-decimal, h)
has_none_at front (event.Xl k (Err (refusal.Range param.Cap n))) h = simp (has_none-append, has_none-decimal, h)
has_none_at front (event.Xl k (Err (refusal.Range param.Ratelimit n))) h = simp (has_none-append, has_none-decimal, h)
has_none_at front (event.Xl k (Err (refusal.Range param.Period n))) h = simp (has_none-append, has_none-decimal, h)
has_none_at front (event.Xl k (Err (refusal.Range param.Budget n))) h = simp (has_none-append, has_none-decimal, h)
has_none_at front (event.Xl k (Err (refusal.Range param.Major n))) h = simp (has_none-append, has_none-decimal, h)
has_none_at front (event.Xl k (Err (refusal.Range param.Run n))) h = simp (has_none-append, has_none-decimal, h)
has_none_at front (event.Xl k (Err (refusal.PoolEmpty i))) h = simp (has_none-append, has_none-decimal, h)
has_none_at front (event.Xl k (Err (refusal.ArincOne i))) h = simp (has_none-append, has_none-decimal, h)
has_none_at front (event.Xl k (Err refusal.PoolsFull)) h = simp (has_none-append, has_none-decimal, h)
has_none_at front (event.Xl k (Err (refusal.FrameLong sum major))) h = simp (has_none-append, has_none-decimal, h)
has_none_at front (event.Xl k (Err refusal.NoVcpu)) h = simp (has_none-append, has_none-decimal, h)
has_none_at front (event.Moved r None) h = simp (has_none-append, has_none-decimal, h)
has_none_at front (event.Moved r (Some i)) h = simp (has_none-append, has_none-decimal, h)
has_none_at front (event.DomMoved d i) h = simp (has_none-append, has_none-decimal, h)
has_none_at front (event.Wake v) h = simp (has_none-append, has_none-decimal, h)
has_none_at front (event.Block p v) h = simp (has_none-append, has_none-decimal, h)
has_none_at front (event.Slice r) h = simp (has_none-append, has_none-decimal, h)
has_none_at front (event.Repl u start deadline budget false) h = simp (has_none-append, has_none-decimal, h)
has_none_at front (event.Repl u start deadline budget true) h = simp (has_none-append, has_none-decimal, h)
has_none_at front (event.Refill d periods (pos n)) h = simp (has_none-append, has_none-decimal, h)
has_none_at front (event.Refill d periods (negsuc n)) h = simp (has_none-append, has_none-decimal, h)
has_none_at front (event.Arrive p) h = simp (has_none-append, has_none-decimal, h)
has_none_at front (event.Decide r None None late reset) h = simp (has_none-append, has_none-decimal, h)
has_none_at front (event.Decide r None (Some due) late reset) h = simp (has_none-append, has_none-decimal, h)
has_none_at front (event.Decide r (Some u) None late reset) h = simp (has_none-append, has_none-decimal, h)
has_none_at front (event.Decide r (Some u) (Some due) late reset) h = simp (has_none-append, has_none-decimal, h)
has_none_at front (event.Leave p None) h = simp (has_none-append, has_none-decimal, h)
has_none_at front (event.Leave p (Some v)) h = simp (has_none-append, has_none-decimal, h)
has_none_at front (event.Save r u true) h = simp (has_none-append, has_none-decimal, h)
has_none_at front (event.Save r u false) h = simp (has_none-append, has_none-decimal, h)
has_none_at front (event.End next) h = simp (has_none-append, has_none-decimal, h)
has_none_at front event.Finish h = simp (has_none-append, h)

pub has_none-words : (e : Entry) → has_none (words e) ≡ true
has_none-words e = has_none_at (decimal e.at.0) e.event (has_none-decimal e.at.0)
