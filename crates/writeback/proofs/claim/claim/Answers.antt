-- `claim` meets its contract: each way out by its law.
use mathlib.Core.Path.{ap, ◌∙◌}
use native.Mathlib.Omega.{arith}
use Rattle.tables.specs.QueueEntries.{size_more}
use Rattle.model.specs.declared.event.Answer.{Answer}
use Rattle.writeback.specs.declared.claim.ClaimDone.{ClaimDone}
use Rattle.writeback.proofs.ClaimWork.{Taken, refused, taken, write_begins, freed}
use Rattle.writeback.proofs.ClaimNulls.{told, refused_nulls, begun_nulls, freed_nulls}
use Rattle.writeback.proofs.claim.claim.Goals as goal

pub returns-then-at-eq0 : goal.returns-then-at-eq0
returns-then-at-eq0 c = told _ _ (refused_nulls _ _ _ _ _ _ _ _ _ _ _ c.at.ensures c.if-at-eq0.true) (refused _ _ _ _ _ _ _ _ _ _ _ c.at.ensures c.if-at-eq0.true) (ap {B = ClaimDone} (λ (a : Answer). record { nulled = 0; answer = a }) c.from.ensures)

pub turn-looks-requires : goal.turn-looks-requires
turn-looks-requires c = (
  rw c.requires.0.list_long c.requires.0.list_packed,
  size_more c.args.removal_list.now 0 (omega arith) (λ h. c.if-at-eq0.false (c.at.ensures ∙ h)),
  omega (arith, c.requires.0.list_long, c.requires.1.frames_most),
)

pub begins-requires : goal.begins-requires
begins-requires c =
    let it : (let a = c.args in Taken a.sizes c.frame_at-old.result a.accounts.now a.limits.now a.parents.now a.words.now a.free_queue.now a.addresses.now a.states.now a.used.now c.first-f.result) =
    taken _ _ _ _ _ _ _ c.args.removal_list.now _ _ _ c.at.ensures c.if-at-eq0.false c.requires c.turn-looks.ensures c.first-f.ensures c.frame_at-old.ensures in
    it.words_fit

pub returns-then-begins : goal.returns-then-begins
returns-then-begins c =
    told _ _
    (begun_nulls _ _ _ _ _ _ _ _ _ _ _ c.at.ensures c.if-at-eq0.false c.requires c.turn-looks.ensures c.first-f.ensures c.frame_at-old.ensures c.begins.ensures c.if-begins.true)
    (write_begins _ _ _ _ _ _ _ _ _ _ _ c.at.ensures c.if-at-eq0.false c.requires c.turn-looks.ensures c.first-f.ensures c.frame_at-old.ensures
    c.begins.ensures c.if-begins.true c.pop.ensures c.writing.ensures c.put_frame.ensures)
    c.claimed.ensures

pub make_nulled-requires : goal.make_nulled-requires
make_nulled-requires c =
    let it : (let a = c.args in Taken a.sizes c.frame_at-old.result a.accounts.now a.limits.now a.parents.now a.words.now a.free_queue.now a.addresses.now a.states.now a.used.now c.first-f.result) =
    taken _ _ _ _ _ _ _ c.args.removal_list.now _ _ _ c.at.ensures c.if-at-eq0.false c.requires c.turn-looks.ensures c.first-f.ensures c.frame_at-old.ensures in
    it.moves _ c.record_of-r.ensures

pub uncharge_modified-requires : goal.uncharge_modified-requires
uncharge_modified-requires c =
    let it : (let a = c.args in Taken a.sizes c.frame_at-old.result a.accounts.now a.limits.now a.parents.now a.words.now a.free_queue.now a.addresses.now a.states.now a.used.now c.first-f.result) =
    taken _ _ _ _ _ _ _ c.args.removal_list.now _ _ _ c.at.ensures c.if-at-eq0.false c.requires c.turn-looks.ensures c.first-f.ensures c.frame_at-old.ensures in
    rw c.named.ensures it.pays

pub push_back-requires : goal.push_back-requires
push_back-requires c =
    let it : (let a = c.args in Taken a.sizes c.frame_at-old.result a.accounts.now a.limits.now a.parents.now a.words.now a.free_queue.now a.addresses.now a.states.now a.used.now c.first-f.result) =
    taken _ _ _ _ _ _ _ c.args.removal_list.now _ _ _ c.at.ensures c.if-at-eq0.false c.requires c.turn-looks.ensures c.first-f.ensures c.frame_at-old.ensures in
    it.room

pub returns : goal.returns
returns c =
    told _ _
    (freed_nulls _ _ _ _ _ _ _ _ _ _ _ c.at.ensures c.if-at-eq0.false c.requires c.turn-looks.ensures c.first-f.ensures c.frame_at-old.ensures c.begins.ensures c.if-begins.false c.entry_nulled-nulled.ensures)
    (freed _ _ _ _ _ _ _ _ _ _ _ c.at.ensures c.if-at-eq0.false c.requires c.turn-looks.ensures c.first-f.ensures c.frame_at-old.ensures
    c.begins.ensures c.if-begins.false c.record_of-r.ensures c.named.ensures c.pop.ensures c.push_back.ensures
    c.uncharge_modified.ensures c.no_frame.ensures c.put_frame-2.ensures c.make_nulled.ensures)
    c.claimed-2.ensures
