-- An imported page can be read, and shows the sheet's words: after any acts that spare it, once restarted, where its design is not active and a frame is free.
use mathlib.Core.Path.{◌≡◌, refl, ap, sym, ◌∙◌, subst}
use mathlib.Core.Bool.{◌&&◌}
use mathlib.Core.List.{List, [], ◌∷◌, ◌++◌}
use Prim.Native.Nat.{ℕ, ◌<◌}
use native.Mathlib.Omega.{arith}
use lib.Dec.{T}
use Rattle.tables.specs.Base.{at}
use Rattle.tables.specs.Laws.{and_left, and_right, and_intro}
use Rattle.tables.specs.Rule.{Holds}
use Rattle.tables.specs.Queue.{size}
use Rattle.sheets.specs.Sheet.{text_in}
use Rattle.model.specs.declared.sizes.Sizes.{Sizes}
use Rattle.model.specs.declared.event.Design.TheVariants.{Activate}
use Rattle.model.specs.declared.event.Page.TheVariants.{Fault, Read}
use Rattle.model.specs.declared.event.Writeback.TheVariants.{PageDone}
use Rattle.model.specs.declared.event.Event.TheVariants as Event
use Rattle.model.specs.State.{State, files, page_of, slot_of}
use Rattle.model.specs.Laws.Ruled.{rules}
use Rattle.model.specs.Laws.Fit.{all_fit_holds}
use Rattle.model.specs.Laws.Index.{slot_of_page, page_below}
use Rattle.model.specs.Step.{step}
use Rattle.model.specs.Import.{sheet_of, has, import}
use Rattle.model.specs.Acts.{Act, event, importing, World, act, allowed, legal, run, start}
use Rattle.model.specs.Carried.{all_spare, spares, Board, MayRun, from}
use Rattle.crash.proofs.Steps.{Good}
use Rattle.crash.proofs.ImportRemains.{import_asked}
use Rattle.crash.proofs.Carried.{run_append, legal_append, kept, stays_imported}
use Rattle.crash.proofs.Readable.{Listed, readable}

legal_join : (z : Sizes) (acts more : List Act) (w : World) → T (legal z w acts) → T (legal z (run z w acts) more) → T (legal z w (acts ++ more))
unfolding legal run
legal_join z [] more w t u = u
legal_join z (a ∷ acts) more w t u =
    let rest = legal z (act z w a) acts in
    and_intro (allowed z w a) (legal z (act z w a) (acts ++ more)) (and_left (allowed z w a) rest t) (legal_join z acts more (act z w a) (and_right (allowed z w a) rest t) u)

spare_join : (z : Sizes) (i : ℕ) (acts more : List Act) → Holds (all_spare z i acts) → Holds (all_spare z i more) → Holds (all_spare z i (acts ++ more))
spare_join z i [] more t u = u
spare_join z i (a ∷ acts) more t u = (t.0, spare_join z i acts more t.1 u)

run_twice : (z : Sizes) (first-acts : List Act) (a : Act) (next more : List Act) (w : World) → run z w (first-acts ++ (a ∷ (next ++ more))) ≡ run z (run z w (first-acts ++ a ∷ next)) more
run_twice z first-acts a next more w =
    run_append z first-acts (a ∷ (next ++ more)) w ∙ run_append z (a ∷ next) more (run z w first-acts) ∙ ap (λ (v : World). run z v more) (sym (run_append z first-acts (a ∷ next) w))

legal_twice : (z : Sizes) (first-acts : List Act) (a : Act) (next more : List Act) (w : World) → T (legal z w (first-acts ++ a ∷ next)) → T (legal z (run z w (first-acts ++ a ∷ next)) more) → T (legal z w (first-acts ++ (a ∷ (next ++ more))))
legal_twice z first-acts a next more w t u =
    let ok = legal_append z first-acts (a ∷ next) w t in
    legal_join z first-acts (a ∷ (next ++ more)) w ok.0 (legal_join z (a ∷ next) more (run z w first-acts) ok.1 (subst (λ (v : World). T (legal z v more)) (run_append z first-acts (a ∷ next) w) u))

-- the events that bring a page into frame f
abbrev pub bring : ℕ → ℕ → ℕ → List Act
bring s p f = event (Event.Design (Activate s)) ∷ event (Event.Page (Fault s p)) ∷ event (Event.Writeback (PageDone f 1)) ∷ []

pub read_again : (z : Sizes) (b : Board z) (before after : List Act) (s q n : ℕ) (sheet : List ℕ) → MayRun z b (before ++ importing s q n sheet ∷ after)
    → (import z (from z b before).state s q n sheet).answer.refusal ≡ 0 → (p : ℕ) → p < z.pages → T (has (sheet_of sheet) p) → Holds (all_spare z (page_of z s p) after)
    → (let w = from z b (before ++ importing s q n sheet ∷ after) in T w.up → ¬ ((files w.state).active s ≡ 1) → 0 < size w.state.memory.core.free_queue
    → (j : ℕ) → j < z.words → (f : ℕ) × (let o = step z (run z w (bring s p f)).state (Event.Page (Read s p j)) in (o.answer.refusal ≡ 0) × (o.answer.result ≡ text_in sheet p j)))
unfolding run act legal allowed
read_again z b before after s q n sheet t e p hp has_p spare up rest free j hj =
    let a = importing s q n sheet in
    let acts = before ++ a ∷ after in
    let w₀ = start z b.pack b.junk in
    let w = from z b acts in
    let g = kept z b acts t in
    let i = page_of z s p in
    let pos = g.fit.sizes.pages in
    let slot = (import_asked z (from z b before) s q n sheet e).slot in
    let on_list = (stays_imported z b before after s q n sheet t e p hp spare).listed has_p in
    let k : Listed z w.state s p = record {
      good = (let c = g.copies up in (all_fit_holds z w.state g.fit c.fit, rules z w.state (g.ruled up) c.rules));
      slot = slot;
      page = hp;
      filled = λ o. on_list (g.rules.empty_map_holds i (page_below z pos s p slot hp) (ap (files w.state).number (slot_of_page z pos s p hp) ∙ o));
      resting = rest;
      listed = on_list;
      frame = free;
    } in
    let r = readable z w.state s p k j hj in
    let f = (step z (step z w.state (Event.Design (Activate s))).left (Event.Page (Fault s p))).answer.result in
    let more : T (legal z w (bring s p f)) = and_intro w.up _ up (and_intro w.up _ up (and_intro w.up _ up tt)) in
    let t' = legal_twice z before a after (bring s p f) w₀ t more in
    let shows = (stays_imported z b before (after ++ bring s p f) s q n sheet t' e p hp (spare_join z i after (bring s p f) spare (refl, (refl, (refl, refl))))).reads j hj in
    let ends = run_twice z before a after (bring s p f) w₀ in
    (f, (r.3, (rw ends at shows) up r.3))
