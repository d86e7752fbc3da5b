-- What stands in front of an event in its line stays there.
use Rattle.std.proofs.Common.{◌≡◌, ◌≤◌, ◌+◌, ℕ, List, [], ◌∷◌, ◌++◌, true, false, Some, None, refl, ap, ◌∙◌, length, take, append_assoc, length-append, arith}
use Rattle.std.proofs.Math.Seq.{take-append_seam}
use Rattle.std.specs.Prelude.{Ok, Err, codes, decimal}
use Rattle.sched_model.specs.declared.event.Event.{Event}
use Rattle.sched_model.specs.declared.event.Event.TheVariants as event
use Rattle.sched_model.specs.declared.event.Refusal.{Refusal}
use Rattle.sched_model.specs.declared.event.Refusal.TheVariants as refusal
use Rattle.sched_model.specs.declared.event.Reply.{Reply}
use Rattle.sched_model.specs.declared.event.Reply.TheVariants as reply
use Rattle.sched_print.specs.Line.{with_event, with_refusal, with_reply}

reply_behind : (front more : List ℕ) (r : Reply) → with_reply (front ++ more) r ≡ front ++ with_reply more r
reply_behind front more reply.Done = simp append_assoc
reply_behind front more (reply.Pools pools free) = simp append_assoc
reply_behind front more (reply.Pool pool kind cpus domains) = simp append_assoc
reply_behind front more (reply.Weight weight cap) = simp append_assoc
reply_behind front more (reply.Rate limit) = simp append_assoc
reply_behind front more (reply.Rtds period budget extra) = simp append_assoc

refusal_behind : (front more : List ℕ) (r : Refusal) → with_refusal (front ++ more) r ≡ front ++ with_refusal more r
refusal_behind front more (refusal.Syntax place) = simp append_assoc
refusal_behind front more refusal.NoPool = simp append_assoc
refusal_behind front more (refusal.NameTaken pool) = simp append_assoc
refusal_behind front more refusal.NoDomain = simp append_assoc
refusal_behind front more (refusal.NoCpu cpu) = simp append_assoc
refusal_behind front more (refusal.CpuTaken cpu pool) = simp append_assoc
refusal_behind front more (refusal.CpuElsewhere cpu) = simp append_assoc
refusal_behind front more (refusal.LastCpu pool dom) = simp append_assoc
refusal_behind front more (refusal.PoolHolds pool cpus domains) = simp append_assoc
refusal_behind front more refusal.PoolZero = simp append_assoc
refusal_behind front more (refusal.WrongSched pool kind) = simp append_assoc
refusal_behind front more (refusal.Range param n) = simp append_assoc
refusal_behind front more (refusal.PoolEmpty pool) = simp append_assoc
refusal_behind front more (refusal.ArincOne pool) = simp append_assoc
refusal_behind front more refusal.PoolsFull = simp append_assoc
refusal_behind front more (refusal.FrameLong sum major) = simp append_assoc
refusal_behind front more refusal.NoVcpu = simp append_assoc

-- an event is written behind what stands in front of it
event_behind : (front : List ℕ) (e : Event) → with_event front e ≡ front ++ with_event [] e
event_behind front (event.Stall p until) = simp append_assoc
event_behind front (event.Xl k (Ok r)) = ap (λ (bytes : List ℕ). with_reply bytes r) (append_assoc front (codes " xl ") (decimal k)) ∙ reply_behind front (codes " xl " ++ decimal k) r
event_behind front (event.Xl k (Err r)) = ap (λ (bytes : List ℕ). with_refusal bytes r) (append_assoc front (codes " xl ") (decimal k)) ∙ refusal_behind front (codes " xl " ++ decimal k) r
event_behind front (event.Moved r None) = simp append_assoc
event_behind front (event.Moved r (Some pool)) = simp append_assoc
event_behind front (event.DomMoved d pool) = simp append_assoc
event_behind front (event.Wake v) = simp append_assoc
event_behind front (event.Block p v) = simp append_assoc
event_behind front (event.Slice r) = simp append_assoc
event_behind front (event.Repl u start deadline budget extra) = simp append_assoc
event_behind front (event.Refill d periods budget) = simp append_assoc
event_behind front (event.Arrive p) = simp append_assoc
event_behind front (event.Decide r None None late reset) = simp append_assoc
event_behind front (event.Decide r None (Some due) late reset) = simp append_assoc
event_behind front (event.Decide r (Some u) None late reset) = simp append_assoc
event_behind front (event.Decide r (Some u) (Some due) late reset) = simp append_assoc
event_behind front (event.Leave p None) = simp append_assoc
event_behind front (event.Leave p (Some v)) = simp append_assoc
event_behind front (event.Save r u true) = simp append_assoc
event_behind front (event.Save r u false) = simp append_assoc
event_behind front (event.End next) = simp append_assoc
event_behind front event.Finish = refl

module _ (at : ℕ) (e : Event) (front : ℕ) (line : List ℕ) (count : front ≡ length (decimal at)) (is : line ≡ with_event (decimal at) e ++ 10 ∷ []) where
  abbrev rest : List ℕ
  rest = with_event [] e ++ 10 ∷ []

  in_front : line ≡ decimal at ++ rest
  in_front = is ∙ ap (λ (bytes : List ℕ). bytes ++ 10 ∷ []) (event_behind (decimal at) e) ∙ append_assoc (decimal at) (with_event [] e) (10 ∷ [])

  -- the digits in front stay where an event and a newline are written behind them
  pub front_stays : take front line ≡ decimal at
  front_stays = ap (λ (k : ℕ). take k line) count ∙ ap (take (length (decimal at))) in_front ∙ take-append_seam (decimal at) rest

  pub front_inside : front ≤ length line
  front_inside = (let lengths : length line ≡ length (decimal at) + length rest = ap length in_front ∙ length-append (decimal at) rest in omega (arith, lengths, count))
