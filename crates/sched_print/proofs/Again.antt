-- The text of an entry is read back as that entry.
use Rattle.std.proofs.Common.{◌≡◌, ◌++◌, ◌^◌, ℕ, List, refl, ap, ◌∙◌, append_assoc}
use Rattle.std.specs.Prelude.{true, false, pos, negsuc, Some, None, Result, Ok, Err, codes, decimal}
use Rattle.sched_base.specs.declared.Moment.{Moment}
use Rattle.sched_model.specs.declared.config.SchedKind.TheVariants as kind
use Rattle.sched_model.specs.declared.event.Event.{Event}
use Rattle.sched_model.specs.declared.event.Event.TheVariants as event
use Rattle.sched_model.specs.declared.event.Refusal.TheVariants as refusal
use Rattle.sched_model.specs.declared.event.Reply.TheVariants as reply
use Rattle.sched_model.specs.declared.event.Param.TheVariants as param
use Rattle.sched_model.specs.declared.event.Entry.{Entry}
use Rattle.sched_print.specs.Line.{words, with_event}
use Rattle.sched_print.specs.Ranges.{IsPrintable, IsPrintableEvent, IsMoment, IsCommandNumber}
use Rattle.sched_print.specs.Readers.{Number, read, better_reading, word_at}
use Rattle.sched_print.specs.Forms.{answers, entries, entry, events}
use Rattle.sched_print.proofs.Numbers.{is_plain, read_number, fits_number, fits_64, fits_32, fits_pool, fits_command, fits_below, number_at-space, number_at-last, number_at-u, number_at-v, number_at-hyphen, number_at-n, less-one}

-- what the digits at each place of a line give
ruleset digits = (number_at-space, number_at-last, number_at-u, number_at-v, number_at-hyphen, number_at-n, less-one)

-- what one form does not read, the next one does
passed : (left : ℕ) (r other : Result Entry ℕ) (e : Entry) → r ≡ Ok e → better_reading (Err left) (better_reading r other) ≡ Ok e
passed left r other e is = rw is refl

-- the answer to a command is read behind the moment and the number of the command
behind_xl : (t : Moment) (k : ℕ) (rest bytes : List ℕ) (e : Entry) → IsMoment t → IsCommandNumber k → bytes ≡ decimal t.0 ++ (codes " xl " ++ (decimal k ++ rest)) → is_plain rest ≡ true → read (answers k (entry t.0)) rest ≡ Ok e → read entries bytes ≡ Ok e
unfolding word_at
behind_xl t k rest bytes e ht hk is plain found =
    let behind : List ℕ = codes " xl " ++ (decimal k ++ rest) in
    let first : read entries (decimal t.0 ++ behind) ≡ read (events (entry t.0)) behind = read_number 0 (2 ^ 63) t.0 (λ n. events (entry n)) behind (fits_number ht) refl in
    let second : read (Number 1 4097 (λ n. answers n (entry t.0))) (decimal k ++ rest) ≡ Ok e = read_number 1 4097 k (λ n. answers n (entry t.0)) rest (fits_command hk.0 hk.1) plain ∙ found in
    ap (read entries) is ∙ first ∙ passed _ _ _ e second

again_at : (t : Moment) (what : Event) (bytes : List ℕ) → IsMoment t → IsPrintableEvent what → bytes ≡ with_event (decimal t.0) what → read entries bytes ≡ Ok (record { at = t; event = what })
unfolding word_at
again_at t (event.Stall p until) bytes ht h e = let f = fits_number ht in let f0 = fits_64 h.0 in let f1 = fits_number h.1 in let g = simp append_assoc at e in rw g (simp digits)
again_at t (event.Xl k (Ok reply.Done)) bytes ht h e = let g = simp append_assoc at e in behind_xl t k _ bytes _ ht h.0 g refl refl
again_at t (event.Xl k (Ok (reply.Pools pools free))) bytes ht h e = let f1 = fits_number h.1.0 in let f2 = fits_number h.1.1 in let g = simp append_assoc at e in behind_xl t k _ bytes _ ht h.0 g refl (simp digits)
again_at t (event.Xl k (Ok (reply.Pool i kind.Credit2 cpus domains))) bytes ht h e = let f1 = fits_pool h.1.0 in let f2 = fits_number h.1.1 in let f3 = fits_number h.1.2 in let g = simp append_assoc at e in behind_xl t k _ bytes _ ht h.0 g refl (simp digits)
again_at t (event.Xl k (Ok (reply.Pool i kind.Rtds cpus domains))) bytes ht h e = let f1 = fits_pool h.1.0 in let f2 = fits_number h.1.1 in let f3 = fits_number h.1.2 in let g = simp append_assoc at e in behind_xl t k _ bytes _ ht h.0 g refl (simp digits)
again_at t (event.Xl k (Ok (reply.Pool i kind.Arinc653 cpus domains))) bytes ht h e = let f1 = fits_pool h.1.0 in let f2 = fits_number h.1.1 in let f3 = fits_number h.1.2 in let g = simp append_assoc at e in behind_xl t k _ bytes _ ht h.0 g refl (simp digits)
again_at t (event.Xl k (Ok (reply.Pool i kind.Null cpus domains))) bytes ht h e = let f1 = fits_pool h.1.0 in let f2 = fits_number h.1.1 in let f3 = fits_number h.1.2 in let g = simp append_assoc at e in behind_xl t k _ bytes _ ht h.0 g refl (simp digits)
again_at t (event.Xl k (Ok (reply.Weight weight cap))) bytes ht h e = let f1 = fits_number h.1.0 in let f2 = fits_number h.1.1 in let g = simp append_assoc at e in behind_xl t k _ bytes _ ht h.0 g refl (simp digits)
again_at t (event.Xl k (Ok (reply.Rate limit))) bytes ht h e = let f1 = fits_number h.1 in let g = simp append_assoc at e in behind_xl t k _ bytes _ ht h.0 g refl (simp digits)
again_at t (event.Xl k (Ok (reply.Rtds period budget false))) bytes ht h e = let f1 = fits_number h.1.0 in let f2 = fits_number h.1.1 in let g = simp append_assoc at e in behind_xl t k _ bytes _ ht h.0 g refl (simp digits)
again_at t (event.Xl k (Ok (reply.Rtds period budget true))) bytes ht h e = let f1 = fits_number h.1.0 in let f2 = fits_number h.1.1 in let g = simp append_assoc at e in behind_xl t k _ bytes _ ht h.0 g refl (simp digits)
again_at t (event.Xl k (Err (refusal.Syntax place))) bytes ht h e = let f1 = fits_number h.1 in let g = simp append_assoc at e in behind_xl t k _ bytes _ ht h.0 g refl (simp digits)
again_at t (event.Xl k (Err refusal.NoPool)) bytes ht h e = let g = simp append_assoc at e in behind_xl t k _ bytes _ ht h.0 g refl refl
again_at t (event.Xl k (Err (refusal.NameTaken i))) bytes ht h e = let f1 = fits_pool h.1 in let g = simp append_assoc at e in behind_xl t k _ bytes _ ht h.0 g refl (simp digits)
again_at t (event.Xl k (Err refusal.NoDomain)) bytes ht h e = let g = simp append_assoc at e in behind_xl t k _ bytes _ ht h.0 g refl refl
again_at t (event.Xl k (Err (refusal.NoCpu cpu))) bytes ht h e = let f1 = fits_number h.1 in let g = simp append_assoc at e in behind_xl t k _ bytes _ ht h.0 g refl (simp digits)
again_at t (event.Xl k (Err (refusal.CpuTaken cpu i))) bytes ht h e = let f1 = fits_number h.1.0 in let f2 = fits_pool h.1.1 in let g = simp append_assoc at e in behind_xl t k _ bytes _ ht h.0 g refl (simp digits)
again_at t (event.Xl k (Err (refusal.CpuElsewhere cpu))) bytes ht h e = let f1 = fits_number h.1 in let g = simp append_assoc at e in behind_xl t k _ bytes _ ht h.0 g refl (simp digits)
again_at t (event.Xl k (Err (refusal.LastCpu i d))) bytes ht h e = let f1 = fits_pool h.1.0 in let f2 = fits_64 h.1.1 in let g = simp append_assoc at e in behind_xl t k _ bytes _ ht h.0 g refl (simp digits)
again_at t (event.Xl k (Err (refusal.PoolHolds i cpus domains))) bytes ht h e = let f1 = fits_pool h.1.0 in let f2 = fits_number h.1.1 in let f3 = fits_number h.1.2 in let g = simp append_assoc at e in behind_xl t k _ bytes _ ht h.0 g refl (simp digits)
again_at t (event.Xl k (Err refusal.PoolZero)) bytes ht h e = let g = simp append_assoc at e in behind_xl t k _ bytes _ ht h.0 g refl refl
again_at t (event.Xl k (Err (refusal.WrongSched i kind.Credit2))) bytes ht h e = let f1 = fits_pool h.1 in let g = simp append_assoc at e in behind_xl t k _ bytes _ ht h.0 g refl (simp digits)
again_at t (event.Xl k (Err (refusal.WrongSched i kind.Rtds))) bytes ht h e = let f1 = fits_pool h.1 in let g = simp append_assoc at e in behind_xl t k _ bytes _ ht h.0 g refl (simp digits)
again_at t (event.Xl k (Err (refusal.WrongSched i kind.Arinc653))) bytes ht h e = let f1 = fits_pool h.1 in let g = simp append_assoc at e in behind_xl t k _ bytes _ ht h.0 g refl (simp digits)
again_at t (event.Xl k (Err (refusal.WrongSched i kind.Null))) bytes ht h e = let f1 = fits_pool h.1 in let g = simp append_assoc at e in behind_xl t k _ bytes _ ht h.0 g refl (simp digits)
again_at t (event.Xl k (Err (refusal.Range param.Weight n))) bytes ht h e = let f1 = fits_number h.1 in let g = simp append_assoc at e in behind_xl t k _ bytes _ ht h.0 g refl (simp digits)
again_at t (event.Xl k (Err (refusal.Range param.Cap n))) bytes ht h e = let f1 = fits_number h.1 in let g = simp append_assoc at e in behind_xl t k _ bytes _ ht h.0 g refl (simp digits)
again_at t (event.Xl k (Err (refusal.Range param.Ratelimit n))) bytes ht h e = let f1 = fits_number h.1 in let g = simp append_assoc at e in behind_xl t k _ bytes _ ht h.0 g refl (simp digits)
again_at t (event.Xl k (Err (refusal.Range param.Period n))) bytes ht h e = let f1 = fits_number h.1 in let g = simp append_assoc at e in behind_xl t k _ bytes _ ht h.0 g refl (simp digits)
again_at t (event.Xl k (Err (refusal.Range param.Budget n))) bytes ht h e = let f1 = fits_number h.1 in let g = simp append_assoc at e in behind_xl t k _ bytes _ ht h.0 g refl (simp digits)
again_at t (event.Xl k (Err (refusal.Range param.Major n))) bytes ht h e = let f1 = fits_number h.1 in let g = simp append_assoc at e in behind_xl t k _ bytes _ ht h.0 g refl (simp digits)
again_at t (event.Xl k (Err (refusal.Range param.Run n))) bytes ht h e = let f1 = fits_number h.1 in let g = simp append_assoc at e in behind_xl t k _ bytes _ ht h.0 g refl (simp digits)
again_at t (event.Xl k (Err (refusal.PoolEmpty i))) bytes ht h e = let f1 = fits_pool h.1 in let g = simp append_assoc at e in behind_xl t k _ bytes _ ht h.0 g refl (simp digits)
again_at t (event.Xl k (Err (refusal.ArincOne i))) bytes ht h e = let f1 = fits_pool h.1 in let g = simp append_assoc at e in behind_xl t k _ bytes _ ht h.0 g refl (simp digits)
again_at t (event.Xl k (Err refusal.PoolsFull)) bytes ht h e = let g = simp append_assoc at e in behind_xl t k _ bytes _ ht h.0 g refl refl
again_at t (event.Xl k (Err (refusal.FrameLong sum major))) bytes ht h e = let f1 = fits_number h.1.0 in let f2 = fits_number h.1.1 in let g = simp append_assoc at e in behind_xl t k _ bytes _ ht h.0 g refl (simp digits)
again_at t (event.Xl k (Err refusal.NoVcpu)) bytes ht h e = let g = simp append_assoc at e in behind_xl t k _ bytes _ ht h.0 g refl refl
again_at t (event.Moved r None) bytes ht h e = let f = fits_number ht in let f0 = fits_64 h.0 in let g = simp append_assoc at e in rw g (simp digits)
again_at t (event.Moved r (Some i)) bytes ht h e = let f = fits_number ht in let f0 = fits_64 h.0 in let f1 = fits_pool h.1 in let g = simp append_assoc at e in rw g (simp digits)
again_at t (event.DomMoved d i) bytes ht h e = let f = fits_number ht in let f0 = fits_64 h.0 in let f1 = fits_pool h.1 in let g = simp append_assoc at e in rw g (simp digits)
again_at t (event.Wake v) bytes ht h e = let f = fits_number ht in let f0 = fits_64 h.0 in let f1 = fits_32 h.1 in let g = simp append_assoc at e in rw g (simp digits)
again_at t (event.Block p v) bytes ht h e = let f = fits_number ht in let f0 = fits_64 h.0 in let f1 = fits_64 h.1.0 in let f2 = fits_32 h.1.1 in let g = simp append_assoc at e in rw g (simp digits)
again_at t (event.Slice r) bytes ht h e = let f = fits_number ht in let f0 = fits_64 h in let g = simp append_assoc at e in rw g (simp digits)
again_at t (event.Repl u start deadline budget false) bytes ht h e = let f = fits_number ht in let f0 = fits_64 h.0.0 in let f1 = fits_32 h.0.1 in let f2 = fits_number h.1 in let f3 = fits_number h.2 in let f4 = fits_number h.3 in let g = simp append_assoc at e in rw g (simp digits)
again_at t (event.Repl u start deadline budget true) bytes ht h e = let f = fits_number ht in let f0 = fits_64 h.0.0 in let f1 = fits_32 h.0.1 in let f2 = fits_number h.1 in let f3 = fits_number h.2 in let f4 = fits_number h.3 in let g = simp append_assoc at e in rw g (simp digits)
again_at t (event.Refill d periods (pos n)) bytes ht h e = let f = fits_number ht in let f0 = fits_64 h.0 in let f1 = fits_number h.1 in let f2 = fits_number h.2 in let g = simp append_assoc at e in rw g (simp digits)
again_at t (event.Refill d periods (negsuc n)) bytes ht h e = let f = fits_number ht in let f0 = fits_64 h.0 in let f1 = fits_number h.1 in let f2 = fits_below h.2 in let g = simp append_assoc at e in rw g (simp digits)
again_at t (event.Arrive p) bytes ht h e = let f = fits_number ht in let f0 = fits_64 h in let g = simp append_assoc at e in rw g (simp digits)
again_at t (event.Decide r None None late reset) bytes ht h e = let f = fits_number ht in let f0 = fits_64 h.0 in let f1 = fits_number h.3 in let f2 = fits_number h.4 in let g = simp append_assoc at e in rw g (simp digits)
again_at t (event.Decide r None (Some due) late reset) bytes ht h e = let f = fits_number ht in let f0 = fits_64 h.0 in let f1 = fits_number h.2 in let f2 = fits_number h.3 in let f3 = fits_number h.4 in let g = simp append_assoc at e in rw g (simp digits)
again_at t (event.Decide r (Some u) None late reset) bytes ht h e = let f = fits_number ht in let f0 = fits_64 h.0 in let f1 = fits_64 h.1.0 in let f2 = fits_32 h.1.1 in let f3 = fits_number h.3 in let f4 = fits_number h.4 in let g = simp append_assoc at e in rw g (simp digits)
again_at t (event.Decide r (Some u) (Some due) late reset) bytes ht h e = let f = fits_number ht in let f0 = fits_64 h.0 in let f1 = fits_64 h.1.0 in let f2 = fits_32 h.1.1 in let f3 = fits_number h.2 in let f4 = fits_number h.3 in let f5 = fits_number h.4 in let g = simp append_assoc at e in rw g (simp digits)
again_at t (event.Leave p None) bytes ht h e = let f = fits_number ht in let f0 = fits_64 h.0 in let g = simp append_assoc at e in rw g (simp digits)
again_at t (event.Leave p (Some v)) bytes ht h e = let f = fits_number ht in let f0 = fits_64 h.0 in let f1 = fits_64 h.1.0 in let f2 = fits_32 h.1.1 in let g = simp append_assoc at e in rw g (simp digits)
again_at t (event.Save r u true) bytes ht h e = let f = fits_number ht in let f0 = fits_64 h.0 in let f1 = fits_64 h.1.0 in let f2 = fits_32 h.1.1 in let g = simp append_assoc at e in rw g (simp digits)
again_at t (event.Save r u false) bytes ht h e = let f = fits_number ht in let f0 = fits_64 h.0 in let f1 = fits_64 h.1.0 in let f2 = fits_32 h.1.1 in let g = simp append_assoc at e in rw g (simp digits)
again_at t (event.End next) bytes ht h e = let f = fits_number ht in let f0 = fits_number h in let g = simp append_assoc at e in rw g (simp digits)
again_at t event.Finish bytes ht h e = let f = fits_number ht in rw e (simp digits)

-- the text of an entry is read as it
pub again : (e : Entry) → IsPrintable e → read entries (words e) ≡ Ok e
again e h = again_at e.at e.event (words e) h.0 h.1 refl
