-- `field_at` meets its contract, case by case.
use mathlib.Core.Path.{sym, ◌∙◌}
use native.Mathlib.Omega.{arith}
use Rattle.fields.proofs.Cases.{is_tag_below, ends, no_tag, short_head, other_length, short_values, cuts, asks}
use Rattle.fields.proofs.field_at.Goals as goal

pub returns-then-s-place : goal.returns-then-s-place
returns-then-s-place c = ends _ _ c.if-s-place.true

pub overflow_cast-tag : goal.overflow_cast-tag
overflow_cast-tag c = omega arith

pub returns-then-not-is_tag : goal.returns-then-not-is_tag
returns-then-not-is_tag c = no_tag _ _ (omega arith) (sym c.is_tag.ensures ∙ c.if-not-is_tag.true)

pub returns-then-left-lt3 : goal.returns-then-left-lt3
returns-then-left-lt3 c =
    short_head _ _ (omega arith) (sym c.is_tag.ensures ∙ c.if-not-is_tag.false) (omega arith)

pub total_of-size-requires : goal.total_of-size-requires
total_of-size-requires c = is_tag_below _ (sym c.is_tag.ensures ∙ c.if-not-is_tag.false)

pub returns-then-number_at-size : goal.returns-then-number_at-size
returns-then-number_at-size c =
    other_length _ _ (omega arith) (sym c.is_tag.ensures ∙ c.if-not-is_tag.false) (omega arith) (λ e. omega (arith, e, c.number_at.ensures, c.total_of-size.ensures))

pub returns-then-left-size : goal.returns-then-left-size
returns-then-left-size c =
    short_values _ _ (omega arith) (sym c.is_tag.ensures ∙ c.if-not-is_tag.false) (omega arith) (omega (arith, c.number_at.ensures, c.total_of-size.ensures)) (omega arith)

pub returns-then-tag-eq16 : goal.returns-then-tag-eq16
returns-then-tag-eq16 c =
    cuts _ _ (omega arith) (sym c.is_tag.ensures ∙ c.if-not-is_tag.false) (omega arith) (omega (arith, c.number_at.ensures, c.total_of-size.ensures)) (omega arith) c.if-tag-eq16.true

pub request_at-request-requires : goal.request_at-request-requires
request_at-request-requires c =
    (is_tag_below _ (sym c.is_tag.ensures ∙ c.if-not-is_tag.false), omega (arith, c.total_of-size.ensures.0))

pub returns : goal.returns
returns c =
    rw (c.request_at-request.ensures, c.total_of-size.ensures.0)
    (asks _ _ (omega arith) (sym c.is_tag.ensures ∙ c.if-not-is_tag.false) (omega arith)
    (omega (arith, c.number_at.ensures, c.total_of-size.ensures)) (omega arith) (λ e. omega (arith, e, c.if-tag-eq16.false)))
