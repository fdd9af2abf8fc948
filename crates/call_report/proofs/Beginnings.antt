-- Some first octets of a text are some first octets of a longer one.
use Rattle.std.proofs.Common.{◌≡◌, ℕ, List, ◌++◌, length, sym, ap, ◌∙◌, arith, length-append}
use Rattle.std.proofs.lemmas.List.{take-append-le, take_all}
use Rattle.net_io.specs.Sink.{WritesPrefix, WritesLess}

pub a_whole_text_is_a_front : (text rest old new : List ℕ) → new ≡ old ++ text → WritesPrefix (text ++ rest) old new
a_whole_text_is_a_front text rest old new all = record {
  count = length text;
  within = omega (arith, length-append text rest);
  written = all ∙ ap (λ t. old ++ t) (sym (take-append-le (length text) text rest (omega arith) ∙ take_all (length text) text (omega arith)));
}

pub a_part_of_a_text_is_a_front : (text rest old new : List ℕ) → WritesLess text old new → WritesPrefix (text ++ rest) old new
a_part_of_a_text_is_a_front text rest old new less = record {
  count = less.count;
  within = omega (arith, less.within, length-append text rest);
  written = less.written ∙ ap (λ t. old ++ t) (sym (take-append-le less.count text rest (omega (arith, less.within))));
}

-- less of a part is less of all
pub less_of_a_text_is_less_of_more : (text rest old new : List ℕ) → WritesLess text old new → WritesLess (text ++ rest) old new
less_of_a_text_is_less_of_more text rest old new less = record {
  count = less.count;
  within = omega (arith, less.within, length-append text rest);
  written = less.written ∙ ap (λ t. old ++ t) (sym (take-append-le less.count text rest (omega (arith, less.within))));
}
