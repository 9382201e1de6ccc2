-- `ask_held` meets its contract: each pass tells its question.
use mathlib.Core.Path.{sym, ◌∙◌}
use native.Mathlib.Omega.{arith}
use lib.ListN.{take}
use Rattle.tables.specs.Questions.{yes_all}
use Rattle.tables.specs.Rule.{Rule, Holds}
use Rattle.tables.specs.Turn.{said_yes, said_no}
use Rattle.model.specs.Laws.Own.{first_yes, first_no_holds}
use Rattle.model.specs.Laws.Bounds.{slot_most}
use Rattle.leaves.specs.Packed.{unpacked}
use Rattle.designs.specs.Asks.{unframed, true_map, settled}
use Rattle.designs.proofs.Tests.{unframed_taken}
use Rattle.designs.proofs.asks.ask_held.Goals as goal

pub none_framed-requires : goal.none_framed-requires
none_framed-requires c = omega (arith, slot_most c.args.sizes c.requires.0 c.args.slot c.requires.1)

pub returns-then-not-none_framed : goal.returns-then-not-none_framed
returns-then-not-none_framed c =
    let out : Rule = let a = c.args in unframed a.sizes.frames (take a.sizes.frames (unpacked a.frames.now)) a.sizes.pages a.slot in
    let a = c.args in
    let u = c.none_framed.ensures ∙ unframed_taken a.sizes.frames (unpacked a.frames.now) a.sizes.pages a.slot in
    sym (first_no_holds 11 _ _ (said_no out u c.if-not-none_framed.true))

pub map_true-requires : goal.map_true-requires
map_true-requires c = omega (arith, slot_most c.args.sizes c.requires.0 c.args.slot c.requires.1)

pub returns-then-not-map_true : goal.returns-then-not-map_true
returns-then-not-map_true c =
    let out : Rule = let a = c.args in unframed a.sizes.frames (take a.sizes.frames (unpacked a.frames.now)) a.sizes.pages a.slot in
    let true-map : Rule = let a = c.args in true_map a.maps.now a.addresses.now a.states.now a.sizes.pages a.slot in
    let none_in : Holds out =
    let a = c.args in
    said_yes out (c.none_framed.ensures ∙ unframed_taken a.sizes.frames (unpacked a.frames.now) a.sizes.pages a.slot) c.if-not-none_framed.false in
    sym (first_yes 11 _ _ none_in ∙ first_no_holds 12 _ _ (λ h. said_no true-map c.map_true.ensures c.if-not-map_true.true h.0))

pub returns-then-not-records_settled : goal.returns-then-not-records_settled
returns-then-not-records_settled c =
    let out : Rule = let a = c.args in unframed a.sizes.frames (take a.sizes.frames (unpacked a.frames.now)) a.sizes.pages a.slot in
    let at_rest : Rule = let a = c.args in settled a.sizes.records a.states.now a.owners.now a.slot in
    let none_in : Holds out =
    let a = c.args in
    said_yes out (c.none_framed.ensures ∙ unframed_taken a.sizes.frames (unpacked a.frames.now) a.sizes.pages a.slot) c.if-not-none_framed.false in
    sym (first_yes 11 _ _ none_in ∙ first_no_holds 12 _ _ (λ h. said_no at_rest c.records_settled.ensures c.if-not-records_settled.true h.1))

pub returns : goal.returns
returns c =
    let out : Rule = let a = c.args in unframed a.sizes.frames (take a.sizes.frames (unpacked a.frames.now)) a.sizes.pages a.slot in
    let true-map : Rule = let a = c.args in true_map a.maps.now a.addresses.now a.states.now a.sizes.pages a.slot in
    let at_rest : Rule = let a = c.args in settled a.sizes.records a.states.now a.owners.now a.slot in
    let none_in : Holds out =
    let a = c.args in
    said_yes out (c.none_framed.ensures ∙ unframed_taken a.sizes.frames (unpacked a.frames.now) a.sizes.pages a.slot) c.if-not-none_framed.false in
    sym (yes_all _ (none_in, ((said_yes true-map c.map_true.ensures c.if-not-map_true.false, said_yes at_rest c.records_settled.ensures c.if-not-records_settled.false), tt)))
