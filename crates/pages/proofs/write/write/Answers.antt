-- `write` meets its contract: the questions, the charge, then the page's frame, and the word stored.
use mathlib.Core.Path.{refl}
use Rattle.std.proofs.lemmas.Result.{err_from_is_err_and}
use Rattle.model.specs.Step.{result}
use Rattle.leaves.specs.Packed.{unpacked}
use Rattle.pages.proofs.Served.{no_yes}
use Rattle.pages.proofs.Writing.{WriteCall, write_no, used_no, write_denied, used_denied, write_yes, used_yes, write_frames, write_words}
use Rattle.pages.proofs.write.write.Goals as goal

pub returns-in_err-f : goal.returns-in_err-f
returns-in_err-f c =
    let call : WriteCall = let a = c.args in record {
      sizes = a.sizes;
      frames = unpacked a.frames.now;
      numbers = a.numbers.now;
      accounts = a.accounts.now;
      limits = a.limits.now;
      parents = a.parents.now;
      words = a.words.now;
      addresses = a.addresses.now;
      states = a.states.now;
      active = a.active.now;
      used = a.used.now;
      slot = a.slot;
      page = a.page;
      word = a.word;
      value = a.value;
    } in
    let o = write_no call _ c.in_err-f.ensures.answer (no_yes _) in
    let p = err_from_is_err_and c.from_residual.result c.from_residual.ensures.1 in
    record {
      answer = rw (p.1, p.2) (λ i. (o i).answer);
      frames = λ i. (o i).left.memory.core.frames;
      words = λ i. (o i).left.memory.core.words;
      used = used_no call _ c.in_err-f.ensures.answer (no_yes _);
    }

pub returns-then-not-pay : goal.returns-then-not-pay
returns-then-not-pay c =
    let call : WriteCall = let a = c.args in record {
      sizes = a.sizes;
      frames = unpacked a.frames.now;
      numbers = a.numbers.now;
      accounts = a.accounts.now;
      limits = a.limits.now;
      parents = a.parents.now;
      words = a.words.now;
      addresses = a.addresses.now;
      states = a.states.now;
      active = a.active.now;
      used = a.used.now;
      slot = a.slot;
      page = a.page;
      word = a.word;
      value = a.value;
    } in
    let y = c.in_ok-f.ensures.given in
    let h = y.2 in
    let o = write_denied call _ c.in_ok-f.ensures.answer refl h c.requires c.in_ok-f.f c.frame_at-frame.result y.1 c.frame_at-frame.ensures
    c.page_of-i.result c.is_charged-charged.result c.pay.result _ c.page_of-i.ensures c.is_charged-charged.ensures c.pay.ensures.told c.pay.ensures.used c.if-not-pay.true in
    let u = used_denied call _ c.in_ok-f.ensures.answer refl h c.requires c.in_ok-f.f c.frame_at-frame.result y.1 c.frame_at-frame.ensures
    c.page_of-i.result c.is_charged-charged.result c.pay.result _ c.page_of-i.ensures c.is_charged-charged.ensures c.pay.ensures.told c.pay.ensures.used c.if-not-pay.true in
    record {
      answer = λ i. (o i).answer;
      frames = λ i. (o i).left.memory.core.frames;
      words = λ i. (o i).left.memory.core.words;
      used = u;
    }

pub returns : goal.returns
unfolding result
returns c =
    let call : WriteCall = let a = c.args in record {
      sizes = a.sizes;
      frames = unpacked a.frames.now;
      numbers = a.numbers.now;
      accounts = a.accounts.now;
      limits = a.limits.now;
      parents = a.parents.now;
      words = a.words.now;
      addresses = a.addresses.now;
      states = a.states.now;
      active = a.active.now;
      used = a.used.now;
      slot = a.slot;
      page = a.page;
      word = a.word;
      value = a.value;
    } in
    let y = c.in_ok-f.ensures.given in
    let h = y.2 in
    let o = write_yes call _ c.in_ok-f.ensures.answer refl h c.requires c.in_ok-f.f c.frame_at-frame.result y.1 c.frame_at-frame.ensures
    c.page_of-i.result c.is_charged-charged.result c.pay.result _ c.page_of-i.ensures c.is_charged-charged.ensures c.pay.ensures.told c.pay.ensures.used c.if-not-pay.false in
    let us = used_yes call _ c.in_ok-f.ensures.answer refl h c.requires c.in_ok-f.f c.frame_at-frame.result y.1 c.frame_at-frame.ensures
    c.page_of-i.result c.is_charged-charged.result c.pay.result _ c.page_of-i.ensures c.is_charged-charged.ensures c.pay.ensures.told c.pay.ensures.used c.if-not-pay.false in
    let fs = write_frames call _ c.in_ok-f.ensures.answer refl h c.requires c.in_ok-f.f c.frame_at-frame.result y.1 c.frame_at-frame.ensures
    c.page_of-i.result c.is_charged-charged.result c.pay.result _ c.page_of-i.ensures c.is_charged-charged.ensures c.pay.ensures.told c.pay.ensures.used c.if-not-pay.false _ c.put_frame.ensures in
    let ws = write_words call _ c.in_ok-f.ensures.answer refl h c.requires c.in_ok-f.f c.frame_at-frame.result y.1 c.frame_at-frame.ensures
    c.page_of-i.result c.is_charged-charged.result c.pay.result _ c.page_of-i.ensures c.is_charged-charged.ensures c.pay.ensures.told c.pay.ensures.used c.if-not-pay.false c.word_of-k.result _ c.word_of-k.ensures c.put.ensures in
    record {
      answer = λ i. (o i).answer;
      frames = fs;
      words = ws;
      used = us;
    }
