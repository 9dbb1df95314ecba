-- Laws of requests that are made one after another.
use Rattle.std.proofs.Common.{◌≡◌, ℕ, ◌+◌, ◌<◌, List, [], ◌∷◌, ◌++◌, length, get_or, take, drop, set, sym, ap, ◌∙◌, subst, arith, drop-set-lt}
use Rattle.std.proofs.lemmas.List.{take_more, take_more_set, drop-drop}
use Rattle.outlets.specs.declared.message.Message.{Message}
use Rattle.outlets.specs.declared.request.Request.{Request}
use Rattle.outlets.specs.declared.request.Reply.{Reply}
use Rattle.outlets.specs.Meaning.{Meaning, Step}
use Rattle.outlets.specs.Balance.{Run, done, more, Balanced, Continues}
use Rattle.outlets.proofs.Steps.{step_balance}

module _ {O : Type 0} (meaning : Meaning O) where
  -- whatever was asked and replied, it is balanced
  pub run_balanced : (o n : O) (requests : List Request) (replies : List Reply) → Run meaning o requests replies n → Balanced meaning.waits o requests replies n
  run_balanced o n requests replies (done o') x = omega arith
  run_balanced o n requests replies (more o' m n' request rest reply others s r) x =
      omega (arith, step_balance meaning o m request reply s x, run_balanced m n rest others r x)

  -- one request more
  pub run_push : (o m n : O) (requests : List Request) (replies : List Reply) (request : Request) (reply : Reply) → Run meaning o requests replies m → Step meaning m request reply n → Run meaning o (requests ++ request ∷ []) (replies ++ reply ∷ []) n
  run_push o m n requests replies request reply (done o') s = more o n n request [] reply [] s (done n)
  run_push o m n requests replies request reply (more o' p m' first rest said others t r) s =
      more o p n first (rest ++ request ∷ []) said (others ++ reply ∷ []) t (run_push p m n rest others request reply r s)

  -- what one call adds
  pub continues : (m n : O) (request : Request) (reply : Reply) → Step meaning m request reply n → Continues meaning m request reply n
  continues m n request reply s first asked said r =
      let longer = run_push first m n asked said request reply r s in
      (longer, run_balanced first n (asked ++ request ∷ []) (said ++ reply ∷ []) longer)

  -- the request at i of those in memory, with its reply written at i
  pub run_next : (o m n : O) (requests : List Request) (replies : List Reply) (i : ℕ) (d : Request) (reply : Reply) → i < length requests → i < length replies → Run meaning o (take i requests) (take i replies) m → Step meaning m (get_or requests i d) reply n → Run meaning o (take (i + 1) requests) (take (i + 1) (set replies i reply)) n
  run_next o m n requests replies i d reply asked room r s =
      subst (λ (l : List Request). Run meaning o l (take (i + 1) (set replies i reply)) n) (sym (take_more requests i d asked))
      (subst (λ (l : List Reply). Run meaning o (take i requests ++ get_or requests i d ∷ []) l n) (sym (take_more_set replies i reply room))
      (run_push o m n (take i requests) (take i replies) (get_or requests i d) reply r s))

-- a write at i leaves what stands behind i
pub rest_next : (replies start : List Reply) (i : ℕ) (reply : Reply) → drop i replies ≡ drop i start → drop (i + 1) (set replies i reply) ≡ drop (i + 1) start
rest_next replies start i reply e =
    let lt : i < i + 1 = omega arith in
    drop-set-lt (i + 1) replies i reply lt ∙ sym (drop-drop 1 i replies) ∙ ap (drop 1) e ∙ drop-drop 1 i start
