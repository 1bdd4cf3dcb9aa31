-- The index of some parameters and a codebook.
use Rattle.ann_types.specs.Index.{Index}
use Rattle.ann_types.specs.declared.params.Params.{Params}
use Rattle.ann_pq.specs.Codebook.{CodebookView}

abbrev pub index_of : Params → CodebookView → Index
index_of params book = record { params = params; book = book.book }
