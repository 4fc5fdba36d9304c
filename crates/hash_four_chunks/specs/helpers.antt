pub mod FourChunks
