-- What is asked for a store, by the tests that the code makes.
use Rattle.std.specs.Prelude.{◌≡◌, ℕ, suc, ◌-◌, ◌<◌, ◌≤◌}
use Rattle.std.proofs.Common.{lt-ltb, le-ltb}
use Rattle.journal.specs.declared.Ask.TheVariants.{Content, Home, Done}
use Rattle.journal.specs.Steps.{past, asked}

pub ask_content : (count at : ℕ) → at < count → Content at ≡ asked count at
unfolding asked
ask_content count at h = rw (lt-ltb at count h)

pub ask_past : (count at k : ℕ) → count ≤ at → at - count ≡ k → asked count at ≡ past count k
unfolding asked
ask_past count at k h e = rw (le-ltb at count h, e)

pub past_home : (count k h : ℕ) → k ≡ suc (suc (suc h)) → h < count → Home h ≡ past count k
unfolding past
past_home count k h e l = rw (e, lt-ltb h count l)

pub past_done : (count k h : ℕ) → k ≡ suc (suc (suc h)) → count ≤ h → Done ≡ past count k
unfolding past
past_done count k h e l = rw (e, le-ltb h count l)
