pub mod BegunWatches
