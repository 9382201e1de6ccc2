-- "The sum of all limits is the same after any moves; only the limit event and format alter it": over every event and every list of acts.
use Rattle.std.specs.Prelude.{Option, Some, None}
use mathlib.Core.Path.{◌≡◌, refl, ap, sym, ◌∙◌}
use mathlib.Core.Bool.{Bool, true, false, not, ◌&&◌}
use mathlib.Core.Logic.{inl, inr}
use mathlib.Core.List.{List, [], ◌∷◌, ◌++◌}
use Prim.Native.Nat.{ℕ, zero, suc, ◌<◌}
use native.Mathlib.Omega.{arith}
use lib.Dec.{T, eqb}
use lib.ListN.{length}
use Rattle.tables.specs.Base.{if, tab}
use Rattle.tables.specs.Laws.{if_elim, and_left, and_right}
use Rattle.tables.specs.Rule.{same}
use Rattle.tables.specs.Store.{store}
use Rattle.tables.specs.Questions.{Asked, ask, none, first_no}
use Rattle.model.specs.declared.sizes.Sizes.{Sizes}
use Rattle.model.specs.declared.event.Design.TheVariants.{Create, Delete, Activate, Deactivate}
use Rattle.model.specs.declared.event.Account.TheVariants.{Limit, Move}
use Rattle.model.specs.declared.event.Page.TheVariants.{Fault, Read, Write, Wire, Unwire}
use Rattle.model.specs.declared.event.Writeback.TheVariants.{Claim, Truncate, Update, PageDone, MapDone}
use Rattle.model.specs.declared.event.Waiting.TheVariants.{Join, Turn}
use Rattle.model.specs.declared.event.Event.{Event}
use Rattle.model.specs.declared.event.Event.TheVariants as Event
use Rattle.model.specs.Lines.{FREE, RELEASED}
use Rattle.model.specs.State.{Disk, Memory, Held, State, files, frames, READING, WRITING}
use Rattle.model.specs.Setters.{on_disk, on_held, on_slots, set_states, set_owners, raise, counted}
use Rattle.model.specs.Rules.{disk_rules}
use Rattle.model.specs.Questions.{questions}
use Rattle.model.specs.Laws.Ruled.{Ruled, ruled}
use Rattle.model.specs.Laws.Fit.{Fit, fit}
use Rattle.model.specs.Designs
use Rattle.model.specs.Accounts
use Rattle.model.specs.Laws.AccountLaws.{sum_shifted}
use Rattle.model.specs.Terms.{is_limit, no_limit_call, no_limit, no_limits, asks_limit, sum}
use Rattle.model.specs.Pages
use Rattle.model.specs.Writeback
use Rattle.model.specs.Line
use Rattle.model.specs.Restart as R
use Rattle.model.specs.Step.{outcome, all_fit, asked, answer, carried, supplied, whole, result, step, restart}
use Rattle.model.specs.Acts.{Act, event, looking, importing, exporting, restarting, cutting, cutting_in, World, part, cut_off, act, run, land_writes, land_updates, landed}
use Rattle.sheets.specs.Sheet.{count_in}
use Rattle.model.specs.Import.{sheet_of, store_record, store_slot, import_answer}
use Rattle.model.specs.Stores as S
use Rattle.model.specs.Stores.{Call, stores, by_answer, made, first}
use Rattle.model.specs.Requests.{decoded, decoded_number}
use Rattle.model.specs.Calls.{unknown, step_of, apply}
use Rattle.model.specs.ApplyAll.{request_at, request_count, turned, after, apply_all}
use Rattle.invariant.proofs.Cases.{fault_by, claim_by, page_done_by}
use Rattle.invariant.proofs.LineKept.{by_turn}
use Rattle.invariant.proofs.Kept.{asked_all}
use Rattle.invariant.proofs.Stores.{AfterEach, after_first, each_after, import_whole}

-- ── one event ──
abbrev Sum : State → State → Type 0
Sum st st' = sum st'.disk.limits ≡ sum st.disk.limits

-- a parent is lower, so parent and child are two accounts
apart : (z : Sizes) (st : State) → Ruled z st → (g t : ℕ) → t < z.accounts → 0 < t → (files st).parent t ≡ g → ¬ (t ≡ g)
apart z st r g t h p k e = omega (arith, r.disk.parent_lower_holds t h p, k, e)

-- a move
shifted_sum : (z : Sizes) (st : State) (g t m : ℕ) → Fit z st → Ruled z st → Asked (questions z st (Event.Account (Move g t m))) → sum (Accounts.shifted st.disk.limits g t m) ≡ sum st.disk.limits
shifted_sum z st g t m f r a = sum_shifted st.disk.limits g t m (rw f.disk.limits a.0.0) (rw f.disk.limits a.0.1)
    (elim a.1.0.0 [ inl k ↦ apart z st r g t a.0.1 k.0 k.1 | inr k ↦ λ e. apart z st r t g a.0.0 k.0 k.1 (sym e) ]) a.1.0.1.1.0

-- a fault, a claim and the done reports store no limit
module _ (z : Sizes) (st : State) where
  fault_sum : (s p : ℕ) → Sum st (Pages.fault z st s p)
  unfolding Pages.begin_read Pages.serve_zeros Pages.take_record counted
  fault_sum s p = fault_by z st (Sum st) s p refl (λ r. refl) refl

  claim_sum : Sum st (Writeback.claim z st)
  unfolding Writeback.free_frame counted
  claim_sum = claim_by z st (Sum st) refl refl refl

  done_sum : (f good : ℕ) → Sum st (Writeback.page_done z st f good)
  unfolding Writeback.read_good Writeback.read_failed Writeback.store_frame Writeback.write_good Writeback.write_failed Writeback.free_frame counted
  done_sum f good = page_done_by z st (Sum st) f good (λ t u. refl) (λ t u. refl) (λ t u. refl) (λ t u. refl)

  map_sum : (s good : ℕ) → Sum st (Writeback.map_done z st s good)
  unfolding Writeback.store_image Writeback.map_done counted
  map_sum s good =
      let over : Held → State = λ h. on_slots (Writeback.update_over z st s) (on_held (λ x. h) st) in let h = st.memory.held in let stored : State → State = λ x. on_disk (Writeback.store_image z st s) x in
      let good' = stored (over (set_states (store h.states (Writeback.leaver z st s) (λ q. FREE)) (set_owners (store h.owners (Writeback.leaver z st s) (λ q. 0)) h))) in
      let failed = over (set_states (store h.states (Writeback.leaver z st s) (λ q. RELEASED)) h) in
      if_elim (Sum st) (eqb good 1) good' failed (λ t. refl) (λ t. refl)

carried_sum : (z : Sizes) (st : State) (e : Event) → T (not (is_limit e)) → Fit z st → Ruled z st → Asked (questions z st e) → Sum st (carried z st e)
unfolding carried counted Designs.create Designs.delete Designs.activate Designs.deactivate Accounts.move Pages.read Pages.write Pages.wire Pages.unwire Writeback.truncate Writeback.update Line.join
carried_sum z st (Event.Account (Limit q n)) i f r a = absurd i
carried_sum z st (Event.Account (Move g t m)) i f r a = shifted_sum z st g t m f r a
carried_sum z st (Event.Design (Create s q n)) i f r a = refl
carried_sum z st (Event.Design (Delete s)) i f r a = refl
carried_sum z st (Event.Design (Activate s)) i f r a = refl
carried_sum z st (Event.Design (Deactivate s)) i f r a = refl
carried_sum z st (Event.Page (Fault s p)) i f r a = fault_sum z st s p
carried_sum z st (Event.Page (Read s p w)) i f r a = refl
carried_sum z st (Event.Page (Write s p w x)) i f r a = refl
carried_sum z st (Event.Page (Wire s p)) i f r a = refl
carried_sum z st (Event.Page (Unwire s p)) i f r a = refl
carried_sum z st (Event.Writeback Claim) i f r a = claim_sum z st
carried_sum z st (Event.Writeback (Truncate s k)) i f r a = refl
carried_sum z st (Event.Writeback (Update s)) i f r a = refl
carried_sum z st (Event.Writeback (PageDone g good)) i f r a = done_sum z st g good
carried_sum z st (Event.Writeback (MapDone s good)) i f r a = map_sum z st s good
carried_sum z st (Event.Waiting (Join s p)) i f r a = refl
carried_sum z st (Event.Waiting Turn) i f r a = by_turn z st f r (Sum st) (λ l h. refl) (λ k. fault_sum z st _ _) (λ k. claim_sum z st) a

-- For every state and every event but limit, carried out or refused.
pub limits_sum : (z : Sizes) (st : State) (e : Event) → T (not (is_limit e)) → sum (step z st e).left.disk.limits ≡ sum st.disk.limits
unfolding step whole supplied
limits_sum z st e i = go (answer z st e) refl
  where
    go : (n : ℕ) → answer z st e ≡ n → Sum st (outcome n (result z st e) st (whole z st e)).left
    go zero h = let a = asked_all z st e h in carried_sum z st e i (fit z st a.0) (ruled z st a.1.0) a.1.1
    go (suc n) h = refl

-- ── every list ──
-- what lands at a cut is no limit
writes_land : (z : Sizes) (st : State) (lands : ℕ → Bool) (n : ℕ) (d : Disk) → (land_writes z st lands n d).limits ≡ d.limits
unfolding land_writes Writeback.store_frame
writes_land z st lands zero d = refl
writes_land z st lands (suc f) d = if_elim (λ (x : Disk). x.limits ≡ d.limits) (lands f && eqb ((frames st).frame f).transfer WRITING) _ _ (λ t. writes_land z st lands f d) (λ t. writes_land z st lands f d)

updates_land : (z : Sizes) (st : State) (lands : ℕ → Bool) (n : ℕ) (d : Disk) → (land_updates z st lands n d).limits ≡ d.limits
unfolding land_updates Writeback.store_image
updates_land z st lands zero d = refl
updates_land z st lands (suc s) d = if_elim (λ (x : Disk). x.limits ≡ d.limits) (lands s && eqb ((files st).updating s) 1) _ _ (λ t. updates_land z st lands s d) (λ t. updates_land z st lands s d)

cut_off_sum : (z : Sizes) (w : World) (writes updates : ℕ → Bool) (junk : Memory) → sum (cut_off z w writes updates junk).state.disk.limits ≡ sum w.state.disk.limits
unfolding landed
cut_off_sum z w writes updates junk = ap sum (if_elim (λ (d : Disk). d.limits ≡ w.state.disk.limits) w.up _ _
    (λ u. updates_land z w.state updates z.slots _ ∙ writes_land z w.state writes z.frames w.state.disk) (λ u. refl))

-- each store of a call but limit leaves the sum
abbrev SumIs : State → Disk → Type 0
SumIs st d = sum d.limits ≡ sum st.disk.limits

stores_sum : (z : Sizes) (st : State) (e : Event) → T (not (is_limit e)) → Fit z st → Ruled z st → Asked (questions z st e) → AfterEach (SumIs st) (stores z st (S.event e)) st.disk
unfolding stores Writeback.store_frame Writeback.store_image
stores_sum z st (Event.Account (Limit q n)) i f r a = absurd i
stores_sum z st (Event.Account (Move g t m)) i f r a = (shifted_sum z st g t m f r a, tt)
stores_sum z st (Event.Design (Create s q n)) i f r a = (refl, (refl, tt))
stores_sum z st (Event.Design (Delete s)) i f r a = (refl, tt)
stores_sum z st (Event.Design (Activate s)) i f r a = tt
stores_sum z st (Event.Design (Deactivate s)) i f r a = tt
stores_sum z st (Event.Page e) i f r a = tt
stores_sum z st (Event.Writeback Claim) i f r a = tt
stores_sum z st (Event.Writeback (Truncate s k)) i f r a = tt
stores_sum z st (Event.Writeback (Update s)) i f r a = tt
stores_sum z st (Event.Writeback (PageDone g good)) i f r a = go (eqb ((frames st).frame g).transfer READING) (eqb good 1)
  where
    go : (b c : Bool) → AfterEach (SumIs st) (if b [] (if c (Writeback.store_frame z st g ∷ []) [])) st.disk
    go true c = tt
    go false true = (refl, tt)
    go false false = tt
stores_sum z st (Event.Writeback (MapDone s good)) i f r a = go (eqb good 1)
  where
    go : (c : Bool) → AfterEach (SumIs st) (if c (Writeback.store_image z st s ∷ []) []) st.disk
    go true = (refl, tt)
    go false = tt
stores_sum z st (Event.Waiting e) i f r a = tt

-- so do those of an import
import_stores : (z : Sizes) (st : State) (s q n : ℕ) (b : List ℕ) (k : ℕ) → SumIs st (first k (made z st (S.importing s q n b)) st.disk)
unfolding made S.answered stores store_record store_slot
import_stores z st s q n b k = after_first (SumIs st) k _ st.disk refl (go (import_answer z st s q n b))
  where
    go : (m : ℕ) → AfterEach (SumIs st) (by_answer m (raise n ∷ tab (count_in b) (store_record z st s q n (sheet_of b)) 0 ++ store_slot z st s q n (sheet_of b) ∷ [])) st.disk
    go zero = (refl, each_after (SumIs st) (store_record z st s q n (sheet_of b)) (store_slot z st s q n (sheet_of b)) (λ j x h. h) (λ x h. h) (count_in b) 0 (raise n st.disk) refl)
    go (suc m) = tt

-- so does every part of its stores
part_sum : (z : Sizes) (w : World) (c : Call) (k : ℕ) → T (no_limit_call c) → sum (part z w c k).state.disk.limits ≡ sum w.state.disk.limits
unfolding part made S.answered
part_sum z w (S.event e) k t = after_first (SumIs w.state) k _ w.state.disk refl (go (answer z w.state e) refl)
  where
    go : (n : ℕ) → answer z w.state e ≡ n → AfterEach (SumIs w.state) (by_answer n (stores z w.state (S.event e))) w.state.disk
    go zero h = let a = asked_all z w.state e h in stores_sum z w.state e t (fit z w.state a.0) (ruled z w.state a.1.0) a.1.1
    go (suc n) h = tt
part_sum z w (S.importing s q n b) k t = import_stores z w.state s q n b k

act_sum : (z : Sizes) (w : World) (a : Act) → T (no_limit a) → sum (act z w a).state.disk.limits ≡ sum w.state.disk.limits
unfolding act restart R.restarted R.raised counted landed
act_sum z w (event e) t = limits_sum z w.state e t
act_sum z w (looking s p) t = refl
act_sum z w (importing s q n b) t = ap (λ (d : Disk). sum d.limits) (import_whole z w.state s q n b) ∙ import_stores z w.state s q n b _
act_sum z w (exporting s buffer) t = refl
act_sum z w restarting t = go (first_no (ask 1 (all_fit z w.state) (ask 2 (disk_rules z w.state) none)))
  where
    go : (n : ℕ) → sum (outcome n 0 w.state (R.restarted z (R.raised z w.state.disk))).left.disk.limits ≡ sum w.state.disk.limits
    go zero = refl
    go (suc n) = refl
act_sum z w (cutting writes updates junk) t = cut_off_sum z w writes updates junk
act_sum z w (cutting_in c k writes updates junk) t = cut_off_sum z (part z w c k) writes updates junk ∙ part_sum z w c k t

-- From any world, along every list of acts without a limit event: events, page looks, restarts and cuts, also inside calls.
pub limits_sums : (z : Sizes) (w : World) (acts : List Act) → T (no_limits acts) → sum (run z w acts).state.disk.limits ≡ sum w.state.disk.limits
unfolding run
limits_sums z w [] t = refl
limits_sums z w (a ∷ acts) t = limits_sums z (act z w a) acts (and_right (no_limit a) (no_limits acts) t) ∙ act_sum z w a (and_left (no_limit a) (no_limits acts) t)

-- ── a list of requests in one call ──
apply_sum : (z : Sizes) (st : State) (d : Option Event) → T (not (asks_limit d)) → Sum st (step_of z st d).left
unfolding step_of unknown
apply_sum z st (Some e) t = limits_sum z st e t
apply_sum z st None t = go (first_no (asked z st (ask (decoded_number None) (same 0 1) none)))
  where
    go : (n : ℕ) → Sum st (outcome n 0 st st).left
    go zero = refl
    go (suc n) = refl

-- none of the requests asks for it: the sum stays
pub requests_sum : (z : Sizes) (requests answers : List ℕ) (st : State) → ((k : ℕ) → k < request_count (length requests) (length answers) → T (not (asks_limit (decoded (request_at requests k)))))
    → sum (apply_all z requests answers st).left.disk.limits ≡ sum st.disk.limits
unfolding apply_all after turned apply
requests_sum z requests answers st t = go (request_count (length requests) (length answers)) t
  where
    go : (k : ℕ) → ((j : ℕ) → j < k → T (not (asks_limit (decoded (request_at requests j))))) → sum (after z requests answers st k).left.disk.limits ≡ sum st.disk.limits
    go zero u = refl
    go (suc k) u = apply_sum z (after z requests answers st k).left (decoded (request_at requests k)) (u k (omega arith)) ∙ go k (λ j h. u j (omega (arith, h)))

-- ── corollaries: these need no word of a list ──
-- "The sum of all limits is the same after any moves",
pub move_sum : (z : Sizes) (st : State) (giver taker m : ℕ) → sum (step z st (Event.Account (Move giver taker m))).left.disk.limits ≡ sum st.disk.limits
move_sum z st giver taker m = limits_sum z st (Event.Account (Move giver taker m)) tt

-- and at every cut
pub cut_sum : (z : Sizes) (w : World) (writes updates : ℕ → Bool) (junk : Memory) → sum (run z w (cutting writes updates junk ∷ [])).state.disk.limits ≡ sum w.state.disk.limits
cut_sum z w writes updates junk = limits_sums z w (cutting writes updates junk ∷ []) tt
