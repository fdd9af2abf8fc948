-- Answers that are passed on.
use Rattle.std.proofs.Common.{◌≡◌, Result, Ok, Err, sym, subst, ◌∙◌}
use Rattle.std.specs.Prelude.{IsErrAnd}
use Rattle.std.proofs.lemmas.Result.{err_from_is_err_and}
use Rattle.pcapng_frames.specs.declared.fault.NgFault.{NgFault}
use Rattle.pcapng_frames.specs.declared.fault.NgStop.{NgStop}
use Rattle.pcapng_frames.specs.declared.fault.NgStop.TheVariants.{Capture, ReadFault, OutOfMemory}
use Rattle.pcapng_frames.specs.Reader.{IsNgAnswer}

-- a stop of a part is the stop of the whole, where the part's fault is the whole's
pub passed_on : {T U X Y : Type 0} (shown : T → X) (shown' : U → Y) (stop : NgStop) (result : Result U NgStop) (said : Result X NgFault) (said' : Result Y NgFault)
    → ((fault : NgFault) → said ≡ Err fault → said' ≡ Err fault) → IsNgAnswer shown (Err stop) said → result ≡ Err stop → IsNgAnswer shown' result said'
passed_on shown shown' (Capture fault) result said said' lead answer is = subst (λ r. IsNgAnswer shown' r said') (sym is) (lead fault answer)
passed_on shown shown' ReadFault result said said' lead answer is = subst (λ r. IsNgAnswer shown' r said') (sym is) tt
passed_on shown shown' OutOfMemory result said said' lead answer is = subst (λ r. IsNgAnswer shown' r said') (sym is) tt

-- the same behind a `?`
pub by_question : {T U X Y : Type 0} (shown : T → X) (shown' : U → Y) (stop : NgStop) (result : Result U NgStop) (said : Result X NgFault) (said' : Result Y NgFault)
    → IsErrAnd result (λ y. y ≡ stop) → ((fault : NgFault) → said ≡ Err fault → said' ≡ Err fault) → IsNgAnswer shown (Err stop) said → IsNgAnswer shown' result said'
by_question shown shown' stop result said said' out lead answer =
    let p = err_from_is_err_and result out in
    passed_on shown shown' stop result said said' lead answer (p.1 ∙ (λ i. Err (p.2 i)))

-- what is said by an answer that is Ok
pub said_ok : {T X : Type 0} (shown : T → X) (given : T) (said : Result X NgFault) → IsNgAnswer shown (Ok given) said → said ≡ Ok (shown given)
said_ok shown given said answer = answer
