-- What a reply writes is what its answer tells.
use Prim.Native.Nat.{ℕ, ◌≤◌}
use mathlib.Core.Path.{◌≡◌, refl}
use mathlib.Core.List.{List}
use lib.ListN.{length, take}
use Rattle.std.proofs.Common.{Option, Some, None, Result, Ok, Err}
use Rattle.plan_listing.specs.Job.{Job}
use Rattle.job_input.specs.declared.Places.{Places}
use Rattle.job_input.specs.Job.{located, job_at, parse}
use Rattle.job_output.specs.Output.{written_by, Parts}
use Rattle.job_output.proofs.OutputLaws.{written_acceptance, written_refusal}
use Rattle.result.specs.declared.Refusal.{Refusal}
use Rattle.result.specs.Refusal.{refusal_number}
use Rattle.cmap_promise.specs.declared.Written.{Written}
use Rattle.cmap_promise.specs.declared.Unwritten.{Unwritten}
use Rattle.cmap_promise.specs.declared.Unwritten.TheVariants.{Refused, NoRoom}
use Rattle.cmap_promise.specs.Cmap.{Answer, result, answer_of, output_of}
use Rattle.cmap_promise.proofs.PromiseLaws.{written_fits, written_front}
use Rattle.job_output.specs.Answered.{room, reply_bytes, answered, reply_of, reply_to, left_by}

-- ---- which reply an answer gets

module _ (a : Answer) where
  pub reply_written : (w : Written) → a ≡ Ok w → Ok w.bytes ≡ reply_of a
  unfolding reply_of
  reply_written w e = rw e

  module _ (why : Unwritten) (e : a ≡ Err why) where
    pub reply_refused : (refusal : Refusal) (number : ℕ) → why ≡ Refused refusal → number ≡ refusal_number refusal → Err number ≡ reply_of a
    unfolding reply_of
    reply_refused refusal number w n = rw (e, w, n)

    pub reply_no_room : (needed : ℕ) → why ≡ NoRoom needed → Err 10 ≡ reply_of a
    unfolding reply_of
    reply_no_room needed w = rw (e, w)

-- ---- what a reply writes

-- what the call says of an answer that it wrote: the bytes stand in the first places
record Stands (a : Answer) (buffer bytes : List ℕ) : Type 0 where
  fits : (w : Written) → a ≡ Ok w → w.bytes ≤ length buffer
  front : (w : Written) → a ≡ Ok w → take w.bytes buffer ≡ bytes

written_reply : (a : Answer) (buffer bytes : List ℕ) → Stands a buffer bytes → written_by (reply_of a) buffer ≡ reply_bytes a bytes
unfolding reply_of reply_bytes
written_reply (Ok w) buffer bytes s = rw (← s.front w refl) (written_acceptance w.bytes buffer (s.fits w refl))
written_reply (Err (Refused refusal)) buffer bytes s = written_refusal (refusal_number refusal) buffer
written_reply (Err (NoRoom needed)) buffer bytes s = written_refusal 10 buffer

parts_reply : (a : Answer) (buffer bytes : List ℕ) → Stands a buffer bytes → Parts (reply_of a) buffer
unfolding reply_of
parts_reply (Ok w) buffer bytes s = s.fits w refl
parts_reply (Err (Refused refusal)) buffer bytes s = tt
parts_reply (Err (NoRoom needed)) buffer bytes s = tt

module _ (buffer : List ℕ) where
  pub tells_job : length buffer ≡ room → (j : Job) → (written_by (reply_to (Some j)) (left_by (Some j) buffer) ≡ answered (Some j)) × Parts (reply_to (Some j)) (left_by (Some j) buffer)
  unfolding reply_to left_by answered
  tells_job l j =
      let s : Stands (answer_of j room) (output_of j buffer) (result j) = record { fits = λ w e. written_fits j buffer w (rw l e); front = λ w e. written_front j buffer w (rw l e) } in
      (written_reply (answer_of j room) (output_of j buffer) (result j) s, parts_reply (answer_of j room) (output_of j buffer) (result j) s)

  pub tells_damaged : (written_by (reply_to None) (left_by None buffer) ≡ answered None) × Parts (reply_to None) (left_by None buffer)
  unfolding reply_to left_by answered
  tells_damaged = (written_refusal 12 buffer, tt)

-- ---- what the function answers, with the code's own values

abbrev Answers : Option Job → List ℕ → Result ℕ ℕ → List ℕ → Type 0
Answers p buffer reply buffer' =
    (reply ≡ reply_to p) × ((buffer' ≡ left_by p buffer) × ((written_by reply buffer' ≡ answered p) × Parts reply buffer'))

module _ (xs buffer : List ℕ) (r : Option Places) (reply : Result ℕ ℕ) (q : r ≡ located xs) where
  pub answer_damaged : r ≡ None → reply ≡ reply_to None → Answers (parse xs) buffer reply buffer
  unfolding reply_to left_by answered
  answer_damaged e h = rw (← q, e, h) (refl, (refl, tells_damaged buffer))

  pub answer_at : (p : Places) (a : Answer) (buffer' : List ℕ) → r ≡ Some p
      → a ≡ answer_of (job_at xs p) (length buffer) → length buffer ≡ room → buffer' ≡ output_of (job_at xs p) buffer → reply ≡ reply_of a
      → Answers (parse xs) buffer reply buffer'
  unfolding reply_to left_by answered
  answer_at p a buffer' e ha l hb hr = rw (← q, e, hr, ha, l, hb) (refl, (refl, tells_job buffer l (job_at xs p)))
