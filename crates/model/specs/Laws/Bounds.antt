-- What is made of sizes within their limits: how many pages and words there are, so that the code's sums and products fit.
use Rattle.std.specs.Prelude.{ℕ, ◌+◌, ◌*◌, ◌<◌, ◌≤◌}
use Rattle.std.proofs.Common.{mul-le-mul, arith}
use Rattle.tables.specs.StoreLoops.{part_fits}
use Rattle.model.specs.declared.sizes.Sizes.{Sizes}
use Rattle.model.specs.State.{all_pages, page_of}
use Rattle.model.specs.Laws.Fit.{Within}

product : (a b m n : ℕ) → a < m + 1 → b < n + 1 → a * b ≤ m * n
product a b m n h k = mul-le-mul {n₂ = m} {m₂ = n} (omega arith) (omega arith)

module _ (z : Sizes) (w : Within z) where
  pub pages_most : all_pages z ≤ 16384
  pages_most = product z.slots z.pages 64 256 w.slots_most w.pages_most

  pub record_words_most : z.records * z.words ≤ 4194304
  record_words_most = product z.records z.words 4096 1024 w.records_most w.words_most

  pub frame_words_most : z.frames * z.words ≤ 65536
  frame_words_most = product z.frames z.words 64 1024 w.frames_most w.words_most

  -- the pages of a slot and the words of a frame end within their tables
  pub slot_most : (s : ℕ) → s < z.slots → s * z.pages + z.pages ≤ 16384
  slot_most s h = omega (arith, part_fits z.slots z.pages s h, pages_most)

  pub page_most : (s p : ℕ) → s < z.slots → p < z.pages → page_of z s p < 65535
  page_most s p h k = omega (arith, slot_most s h)

  pub frame_most : (f : ℕ) → f < z.frames → f * z.words + z.words ≤ 65536
  frame_most f h = omega (arith, part_fits z.frames z.words f h, frame_words_most)
