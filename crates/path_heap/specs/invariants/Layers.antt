-- The value of a leaf in the layers that hold small codes, one behind the other.
use Rattle.std.specs.Prelude.{ℕ}
use Rattle.path_columns.specs.Codes.{code_at}
use Rattle.path_columns.specs.Slots.{item_at}
use Rattle.path_heap.specs.declared.state.Value.{Value}
use Rattle.path_heap.specs.declared.long_layer.LongLayer.{LongLayer}
use Rattle.path_heap.specs.declared.word_layer.WordLayer.{WordLayer}
use Rattle.path_heap.specs.declared.byte_layer.ByteLayer.{ByteLayer}
use Rattle.path_heap.specs.declared.pair_layer.PairLayer.{PairLayer}
use Rattle.path_heap.specs.invariants.LeafCodes.{pair_by_code, number_by_code, long_by_code, held}

abbrev pub in_long_layer : LongLayer → ℕ → Value
in_long_layer layer n = held (long_by_code (item_at layer.codes n)) (item_at layer.rest n)

abbrev pub in_word_layer : WordLayer → ℕ → Value
in_word_layer layer n = held (number_by_code 2147483648 (code_at layer.codes n)) (in_long_layer layer.rest n)

abbrev pub in_byte_layer : ByteLayer → ℕ → Value
in_byte_layer layer n = held (number_by_code 128 (code_at layer.codes n)) (in_word_layer layer.rest n)

abbrev pub in_pair_layer : PairLayer → ℕ → Value
in_pair_layer layer n = held (pair_by_code (code_at layer.codes n)) (in_byte_layer layer.rest n)
