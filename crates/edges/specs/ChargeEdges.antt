-- What a mill pays for (paper 02, wish 7), as one table under one theorem, by computation: the used count after each event, and what is asked of a write.
use Rattle.std.specs.Prelude.{◌≡◌, refl, List, [], ◌∷◌, ◌++◌, ℕ}
use Rattle.model.specs.Acts.{Act}
use Rattle.edges.specs.Lists.{limit, fault, read, write, wire, unwire, claim, truncate, page_done, look, restart, small, says, leaves, activate, deactivate}
use Rattle.edges.specs.Edges.{opened, listing}

-- the account's used count
unfoldable pub used : List Act → List ℕ
unfolding leaves
used acts = (leaves small acts).memory.used

-- page 0 in a frame, once written; being written; stored and out of its frame; in a frame again, as it was stored
abbrev once : List Act
once = opened 2 ++ write 0 0 1 9 ∷ []

abbrev writing : List Act
writing = once ++ claim ∷ []

abbrev stored : List Act
stored = writing ++ page_done 0 1 ∷ []

abbrev again : List Act
again = stored ++ fault 0 0 ∷ []

pub record Charges : Type 0 where
  -- Looking is free: a page is brought in, read, looked at, wired, unwired and claimed again.
  faulted : used (opened 2) ≡ 0 ∷ []
  looked : used (opened 2 ++ read 0 0 1 ∷ look 0 0 ∷ wire 0 0 ∷ unwire 0 0 ∷ []) ≡ 0 ∷ []
  claimed : used (opened 2 ++ read 0 0 1 ∷ claim ∷ []) ≡ 0 ∷ []
  -- .. at limit 0 too
  free_fault : says small (opened 0) ≡ 0 ∷ 0 ∷ []
  free_read : says small (opened 0 ++ read 0 0 1 ∷ []) ≡ 0 ∷ 0 ∷ []
  -- A page counts once something is woven into it: the first write, also of an equal value; no later one.
  first : used once ≡ 1 ∷ []
  first_equal : used (opened 2 ++ write 0 0 1 0 ∷ []) ≡ 1 ∷ []
  second : used (once ++ write 0 0 0 4 ∷ write 0 0 1 0 ∷ []) ≡ 1 ∷ []
  -- 18 is asked of a write to an uncharged page, also of an equal value, after 14; of no other.
  at_limit : says small (opened 0 ++ write 0 0 1 9 ∷ []) ≡ 18 ∷ 0 ∷ []
  at_limit_equal : says small (opened 0 ++ write 0 0 1 0 ∷ []) ≡ 18 ∷ 0 ∷ []
  within_limit : says small (opened 1 ++ write 0 0 1 9 ∷ []) ≡ 0 ∷ 0 ∷ []
  next_page_holds : says small (opened 1 ++ write 0 0 1 9 ∷ fault 0 1 ∷ write 0 1 0 4 ∷ []) ≡ 18 ∷ 0 ∷ []
  woven_already : says small (once ++ limit 0 0 ∷ write 0 0 1 4 ∷ []) ≡ 0 ∷ 0 ∷ []
  live_already : says small (again ++ limit 0 0 ∷ write 0 0 1 4 ∷ []) ≡ 0 ∷ 0 ∷ []
  in_transfer : says small (writing ++ limit 0 0 ∷ write 0 0 1 4 ∷ []) ≡ 14 ∷ 0 ∷ []
  awaited : says small (listing ++ deactivate 0 ∷ activate 0 ∷ limit 0 0 ∷ fault 0 0 ∷ write 0 0 1 4 ∷ []) ≡ 14 ∷ 0 ∷ []
  -- Page done changes no charge, good or failed: being written it is modified, being read its address is live.
  begun : used writing ≡ 1 ∷ []
  written : used stored ≡ 1 ∷ []
  unwritten : used (writing ++ page_done 0 0 ∷ []) ≡ 1 ∷ []
  arriving : used (stored ++ fault 0 0 ∷ []) ≡ 1 ∷ []
  arrived : used again ≡ 1 ∷ []
  lost : used (stored ++ fault 0 0 ∷ page_done 1 0 ∷ []) ≡ 1 ∷ []
  -- Claimed as zeros: one charge less, of a page that was never stored, of one that was, of one whose write failed. Claimed unmodified: none.
  blank : used (opened 2 ++ write 0 0 1 0 ∷ claim ∷ []) ≡ 0 ∷ []
  blanked : used (again ++ write 0 0 1 0 ∷ claim ∷ []) ≡ 0 ∷ []
  failed_blank : used (writing ++ page_done 0 0 ∷ write 0 0 1 0 ∷ claim ∷ []) ≡ 0 ∷ []
  unmodified : used (again ++ claim ∷ []) ≡ 1 ∷ []
  -- Truncate: one for each charged page.
  cut_woven : used (once ++ fault 0 1 ∷ truncate 0 0 ∷ []) ≡ 0 ∷ []
  cut_empty : used (once ++ fault 0 1 ∷ truncate 0 1 ∷ []) ≡ 1 ∷ []
  cut_live : used (stored ++ fault 0 1 ∷ write 0 1 0 4 ∷ truncate 0 0 ∷ []) ≡ 0 ∷ []
  -- Restart counts as before: the entries above 0.
  restarted : used (listing ++ fault 0 1 ∷ write 0 1 0 4 ∷ restart ∷ []) ≡ 1 ∷ []

pub charges : Charges
unfolding says leaves used
charges = record {
  faulted = refl;
  looked = refl;
  claimed = refl;
  free_fault = refl;
  free_read = refl;
  first = refl;
  first_equal = refl;
  second = refl;
  at_limit = refl;
  at_limit_equal = refl;
  within_limit = refl;
  next_page_holds = refl;
  woven_already = refl;
  live_already = refl;
  in_transfer = refl;
  awaited = refl;
  begun = refl;
  written = refl;
  unwritten = refl;
  arriving = refl;
  arrived = refl;
  lost = refl;
  blank = refl;
  blanked = refl;
  failed_blank = refl;
  unmodified = refl;
  cut_woven = refl;
  cut_empty = refl;
  cut_live = refl;
  restarted = refl;
}
